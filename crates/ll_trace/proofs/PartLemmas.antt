-- Entries of a part that are admitted one after another are read as its lines are.
use Rattle.std.proofs.Common.{◌≡◌, ℕ, List, [], ◌∷◌, ◌++◌, Option, Some, None, Result, Ok, Err, refl, sym, ap, ◌∙◌, append_assoc, subst, flat_map, map}
use Rattle.std.specs.Prelude.{IfOk, IfErr}
use Rattle.std.specs.List.{AllZip}
use Rattle.std.proofs.lemmas.List.Concat.{flat_map-append, flat_map-cons}
use Rattle.ll_lines.specs.declared.fault.Cause.{Cause}
use Rattle.ll_lines.specs.declared.fault.ReadFault.{ReadFault}
use Rattle.ll_lines.specs.Lines.{Line}
use Rattle.ll_lines.specs.LineByLine.{read_lines, with_entry, with_line, GivesReading, MeetsFault}
use Rattle.ll_lines.specs.Readers.{Fails}
use Rattle.ll_lines.proofs.MemoryLemmas.{unless-map}
use Rattle.ll_lines.proofs.ReadingLemmas.{read_lines_next, read_lines_fault, read_lines_end}
use Rattle.ll_trace.specs.declared.parts.PartRead.{PartRead}
use Rattle.ll_trace.specs.declared.reader.Entry as declared
use Rattle.ll_trace.specs.declared.reader.Reader.{Reader}
use Rattle.ll_trace.specs.Entries.{Entry, entry_at, trace_file}
use Rattle.ll_trace.specs.Kept.{entry_view, entries}
use Rattle.ll_trace.specs.Parts.{Says, Covers, EndsAt, IsRead, IsReadOf}

-- one line more
Covers-push : (lines : List Line) (entries : List declared.Entry) (entry : declared.Entry) (line : Line) (others : List Line) → Says line entry
    → Covers lines entries (line ∷ others) → Covers lines (entries ++ entry ∷ []) others
Covers-push lines [] entry line others says cut = subst (λ ls. Covers ls (entry ∷ []) others) (sym cut) (says, refl)
Covers-push [] (first ∷ entries) entry line others says covers = absurd covers
Covers-push (one ∷ lines) (first ∷ entries) entry line others says covers = (covers.0, Covers-push lines entries entry line others says covers.1)

pub covers_more : (lines : List Line) (entries : List declared.Entry) (entry : declared.Entry) (line : Line) (others : List Line)
    → entry_at line ≡ Ok (entry_view entry) → entry.line ≡ line.number
    → Covers lines entries (line ∷ others) → Covers lines (entries ++ entry ∷ []) others
covers_more lines entries entry line others reads number covers = Covers-push lines entries entry line others (record { reads = reads; number = number }) covers

-- what is left of a part behind some of its entries: its lines are read on, whatever comes behind them
pub record Goes (earlier : List Entry) (lines : List Line) (now : List Entry) (entries : List declared.Entry) (fault : Option ReadFault) : Type 0 where
  pub left : List Line
  pub read : IsRead left entries fault
  pub same : (others : List Line) → read_lines trace_file earlier (lines ++ others) ≡ read_lines trace_file now (left ++ others)

with_line-says : (earlier : List Entry) (line : Line) (entry : declared.Entry) → Says line entry
    → with_line trace_file earlier line ≡ with_entry trace_file earlier (entry_view entry)
with_line-says earlier line entry says = rw (says.reads) refl

next_of : (earlier now : List Entry) (lines : List Line) (entry : declared.Entry) (entries : List declared.Entry) (fault : Option ReadFault)
    → IsRead lines (entry ∷ entries) fault
    → with_entry trace_file earlier (entry_view entry) ≡ Ok now → Goes earlier lines now entries fault
next_of earlier now [] entry entries fault read admits = absurd read.covers
next_of earlier now (line ∷ lines) entry entries fault read admits = record {
  left = lines;
  read = record { rest = read.rest; covers = read.covers.1; ends = read.ends };
  same = λ others. read_lines_next trace_file earlier now line (lines ++ others) (with_line-says earlier line entry read.covers.0 ∙ admits);
}

-- an entry is admitted
pub Goes-next : (first earlier now : List Entry) (lines : List Line) (entry : declared.Entry) (entries : List declared.Entry) (fault : Option ReadFault)
    → Goes first lines earlier (entry ∷ entries) fault
    → with_entry trace_file earlier (entry_view entry) ≡ Ok now → Goes first lines now entries fault
Goes-next first earlier now lines entry entries fault goes admits =
    let next = next_of earlier now goes.left entry entries fault goes.read admits in
    record { left = next.left; read = next.read; same = λ others. goes.same others ∙ next.same others }

meets_admission : (earlier : List Entry) (lines others : List Line) (entry : declared.Entry) (entries : List declared.Entry) (fault : Option ReadFault)
    (cause : Cause) → IsRead lines (entry ∷ entries) fault
    → Fails cause (with_entry trace_file earlier (entry_view entry)) → MeetsFault entry.line cause (read_lines trace_file earlier (lines ++ others))
meets_admission earlier [] others entry entries fault cause read fails = absurd read.covers
meets_admission earlier (line ∷ lines) others entry entries fault cause read fails =
    let says = read.covers.0 in
    let line_fails : Fails cause (with_line trace_file earlier line) = subst (Fails cause) (sym (with_line-says earlier line entry says)) fails in
    subst (λ n. MeetsFault n cause (read_lines trace_file earlier (line ∷ lines ++ others))) (sym says.number)
    (read_lines_fault trace_file earlier line (lines ++ others) cause line_fails)

-- an entry is not admitted
pub Goes-stop : (first earlier : List Entry) (lines others : List Line) (entry : declared.Entry) (entries : List declared.Entry) (fault : Option ReadFault)
    (cause : Cause) → Goes first lines earlier (entry ∷ entries) fault
    → Fails cause (with_entry trace_file earlier (entry_view entry)) → MeetsFault entry.line cause (read_lines trace_file first (lines ++ others))
Goes-stop first earlier lines others entry entries fault cause goes fails =
    subst (MeetsFault entry.line cause) (sym (goes.same others)) (meets_admission earlier goes.left others entry entries fault cause goes.read fails)

-- all entries are admitted, and no line is left
pub Goes-all : (first now : List Entry) (lines others : List Line) → Goes first lines now [] None
    → read_lines trace_file first (lines ++ others) ≡ read_lines trace_file now others
Goes-all first now lines others goes =
    let none : goes.left ≡ [] = goes.read.covers ∙ goes.read.ends in
    goes.same others ∙ ap (λ ls. read_lines trace_file now (ls ++ others)) none

cause_of_line : (line : Line) (earlier : List Entry) (cause : Cause) → Fails cause (entry_at line) → Fails cause (with_line trace_file earlier line)
cause_of_line line earlier cause fails =
    unless-map cause (entry_at line) (Err cause) (with_line trace_file earlier line) (Err cause) (λ fault. rw fault refl) fails

meets_line : (earlier : List Entry) (rest others : List Line) (fault : ReadFault) → EndsAt rest (Some fault)
    → MeetsFault fault.line fault.cause (read_lines trace_file earlier (rest ++ others))
meets_line earlier [] others fault ends = absurd ends
meets_line earlier (line ∷ rest) others fault ends =
    subst (λ n. MeetsFault n fault.cause (read_lines trace_file earlier (line ∷ rest ++ others))) ends.0
    (read_lines_fault trace_file earlier line (rest ++ others) fault.cause (cause_of_line line earlier fault.cause ends.1))

-- all entries are admitted, and the line behind them has a fault
pub Goes-fault : (first now : List Entry) (lines others : List Line) (fault : ReadFault) → Goes first lines now [] (Some fault)
    → MeetsFault fault.line fault.cause (read_lines trace_file first (lines ++ others))
Goes-fault first now lines others fault goes =
    let rest : goes.left ≡ goes.read.rest = goes.read.covers in
    subst (MeetsFault fault.line fault.cause) (sym (goes.same others ∙ ap (λ ls. read_lines trace_file now (ls ++ others)) rest))
    (meets_line now goes.read.rest others fault goes.read.ends)

-- what is left of the parts behind some of them: their lines are read on, whatever comes behind them
pub record Comes (first : List Entry) (lines : List (List Line)) (now : List Entry) (parts : List PartRead) : Type 0 where
  pub left : List (List Line)
  pub read : AllZip IsReadOf left parts
  pub same : (others : List Line)
      → read_lines trace_file first (flat_map (λ part. part) lines ++ others) ≡ read_lines trace_file now (flat_map (λ part. part) left ++ others)

-- the lines of the first part come first
lines_of_next : (some : List Line) (left : List (List Line)) (others : List Line)
    → flat_map (λ part. part) (some ∷ left) ++ others ≡ some ++ (flat_map (λ part. part) left ++ others)
lines_of_next some left others =
    ap (λ (lines : List Line). lines ++ others) (flat_map-cons (λ (part : List Line). part) some left) ∙ append_assoc some (flat_map (λ part. part) left) others

-- a part is admitted
next_part : (first now after : List Entry) (lines left : List (List Line)) (part : PartRead) (parts : List PartRead) → AllZip IsReadOf left (part ∷ parts)
    → ((others : List Line)
    → read_lines trace_file first (flat_map (λ part. part) lines ++ others) ≡ read_lines trace_file now (flat_map (λ part. part) left ++ others))
    → ((some others : List Line) → IsReadOf some part → read_lines trace_file now (some ++ others) ≡ read_lines trace_file after others)
    → Comes first lines after parts
next_part first now after lines [] part parts read same admitted = absurd read
next_part first now after lines (some ∷ left) part parts read same admitted = record {
  left = left;
  read = read.1;
  same = λ others. same others ∙ ap (read_lines trace_file now) (lines_of_next some left others)
      ∙ admitted some (flat_map (λ part. part) left ++ others) read.0;
}

pub Comes-next : (first now after : List Entry) (lines : List (List Line)) (part : PartRead) (parts : List PartRead) → Comes first lines now (part ∷ parts)
    → ((some others : List Line) → IsReadOf some part → read_lines trace_file now (some ++ others) ≡ read_lines trace_file after others)
    → Comes first lines after parts
Comes-next first now after lines part parts comes admitted = next_part first now after lines comes.left part parts comes.read comes.same admitted

-- a part meets a fault
stop_part : (now : List Entry) (left : List (List Line)) (others : List Line) (part : PartRead) (parts : List PartRead) (number : ℕ) (cause : Cause)
    → AllZip IsReadOf left (part ∷ parts)
    → ((some others : List Line) → IsReadOf some part → MeetsFault number cause (read_lines trace_file now (some ++ others)))
    → MeetsFault number cause (read_lines trace_file now (flat_map (λ part. part) left ++ others))
stop_part now [] others part parts number cause read meets = absurd read
stop_part now (some ∷ left) others part parts number cause read meets =
    subst (λ lines. MeetsFault number cause (read_lines trace_file now lines)) (sym (lines_of_next some left others))
    (meets some (flat_map (λ part. part) left ++ others) read.0)

pub Comes-stop : (first now : List Entry) (lines : List (List Line)) (others : List Line) (part : PartRead) (parts : List PartRead) (number : ℕ) (cause : Cause)
    → Comes first lines now (part ∷ parts)
    → ((some others : List Line) → IsReadOf some part → MeetsFault number cause (read_lines trace_file now (some ++ others)))
    → MeetsFault number cause (read_lines trace_file first (flat_map (λ part. part) lines ++ others))
Comes-stop first now lines others part parts number cause comes meets =
    subst (MeetsFault number cause) (sym (comes.same others)) (stop_part now comes.left others part parts number cause comes.read meets)

-- all parts are admitted
no_part : (left : List (List Line)) → AllZip IsReadOf left [] → left ≡ []
no_part [] read = refl
no_part (some ∷ left) read = absurd read

pub Comes-end : (first now : List Entry) (lines : List (List Line)) (others : List Line) → Comes first lines now []
    → read_lines trace_file first (flat_map (λ part. part) lines ++ others) ≡ read_lines trace_file now others
Comes-end first now lines others comes =
    comes.same others ∙ ap (λ left. read_lines trace_file now (flat_map (λ part. part) left ++ others)) (no_part comes.left comes.read)

-- what is read of a file's parts: some are admitted, those behind them are read, and the others are left
pub record AreReading {P : Type 0} (lines_of : P → List Line) (all : List Line) (admitted : List Entry) (reads : List PartRead) (left : List P) : Type 0 where
  pub lines : List (List Line)
  pub are : AllZip IsReadOf lines reads
  pub same : read_lines trace_file [] all ≡ read_lines trace_file admitted (flat_map (λ part. part) lines ++ flat_map lines_of left)

module _ {P : Type 0} (lines_of : P → List Line) where
  -- the lines of the next part come first
  pub lines_of_first : (earlier : List Entry) (part : P) (left rest : List P) → left ≡ part ∷ rest
      → read_lines trace_file earlier (flat_map lines_of left) ≡ read_lines trace_file earlier (lines_of part ++ flat_map lines_of rest)
  lines_of_first earlier part left rest cut = ap (λ parts. read_lines trace_file earlier (flat_map lines_of parts)) cut

  are_read : (round : List P) (reads : List PartRead) → AllZip (λ part. IsReadOf (lines_of part)) round reads → AllZip IsReadOf (map lines_of round) reads
  are_read [] [] are = are
  are_read [] (read ∷ reads) are = absurd are
  are_read (part ∷ round) [] are = absurd are
  are_read (part ∷ round) (read ∷ reads) are = (are.0, are_read round reads are.1)

  all_lines : (parts : List P) → flat_map (λ lines. lines) (map lines_of parts) ≡ flat_map lines_of parts
  all_lines [] = refl
  all_lines (part ∷ parts) = ap (λ lines. lines_of part ++ lines) (all_lines parts)

  -- the parts are admitted, and the next ones are read
  pub AreReading-next : (all : List Line) (admitted now : List Entry) (reads next : List PartRead) (round rest left : List P)
      → round ++ rest ≡ left → AreReading lines_of all admitted reads left
      → ((lines : List (List Line)) (others : List Line) → AllZip IsReadOf lines reads
      → read_lines trace_file admitted (flat_map (λ part. part) lines ++ others) ≡ read_lines trace_file now others)
      → AllZip (λ part. IsReadOf (lines_of part)) round next → AreReading lines_of all now next rest
  AreReading-next all admitted now reads next round rest left cut so_far admits are = record {
    lines = map lines_of round;
    are = are_read round next are;
    same = so_far.same ∙ admits so_far.lines (flat_map lines_of left) so_far.are
        ∙ ap (read_lines trace_file now) (ap (flat_map lines_of) (sym cut) ∙ flat_map-append lines_of round rest
        ∙ ap (λ lines. lines ++ flat_map lines_of rest) (sym (all_lines round)));
  }

  -- the last parts are admitted
  pub AreReading-end : (all : List Line) (admitted : List Entry) (reads : List PartRead) (left : List P) (result : Result Reader ReadFault) → left ≡ []
      → AreReading lines_of all admitted reads left
      → IfOk result (λ more. (lines : List (List Line)) (others : List Line) → AllZip IsReadOf lines reads
      → read_lines trace_file admitted (flat_map (λ part. part) lines ++ others) ≡ read_lines trace_file (entries more) others)
      → IfErr result (λ fault. (lines : List (List Line)) (others : List Line) → AllZip IsReadOf lines reads
      → MeetsFault fault.line fault.cause (read_lines trace_file admitted (flat_map (λ part. part) lines ++ others)))
      → GivesReading entries result (read_lines trace_file [] all)
  AreReading-end all admitted reads left (Ok more) none so_far admits meets =
      so_far.same
      ∙ admits so_far.lines (flat_map lines_of left) so_far.are
      ∙ ap (λ parts. read_lines trace_file (entries more) (flat_map lines_of parts)) none
      ∙ read_lines_end trace_file (entries more)
  AreReading-end all admitted reads left (Err fault) none so_far admits meets =
      subst (MeetsFault fault.line fault.cause) (sym so_far.same) (meets so_far.lines (flat_map lines_of left) so_far.are)
