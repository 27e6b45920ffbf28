-- The word by which a line says its operation is the operation's name.
use Rattle.std.proofs.Common.{◌≡◌, ◌∙◌, ℕ, Bool, true, false, cond, List, [], ◌∷◌, Result, Ok, Err, refl, ap, sym, subst, rules}
use Rattle.std.specs.Prelude.{codes, bytes_eq}
use Rattle.std.proofs.lemmas.Slice.Eq.{bytes_eq-Decides}
use Rattle.serde_json.specs.Data.{Data}
use Rattle.ll_lines.specs.declared.fault.Cause.{Cause}
use Rattle.ll_lines.specs.declared.fault.Cause.TheVariants.{BadPath}
use Rattle.ll_lines.specs.Members.{number_at, text_at, value_at, ◌>>=◌}
use Rattle.ll_lines.specs.Lines.{Line}
use Rattle.ll_trace.specs.declared.op.Op.{Op}
use Rattle.ll_trace.specs.Entries.{Entry, entry_at}
use Rattle.ll_trace.specs.Forms.{meaning}
use Rattle.ll_trace.specs.Operations.{op_name, are_spelt, spelt, path_operations, descriptor_operations, operations, operation_at, operation_named}
use Rattle.ll_trace.specs.SaidByName.{SaysOperation}

-- what is read, if anything, has this name
unfoldable HasName : List ℕ → Result Op Cause → Type 0
HasName name (Ok op) = op_name op ≡ name
HasName name (Err cause) = Unit {0}

unfoldable HaveNames : List (List ℕ × Result Op Cause) → Type 0
HaveNames [] = Unit {0}
HaveNames (row ∷ rows) = HasName row.0 row.1 × HaveNames rows

after : {A : Type 0} (name : List ℕ) (a : Result A Cause) (f : A → Result Op Cause) → ((x : A) → HasName name (f x)) → HasName name (a >>= f)
unfolding HasName
after name (Ok x) f has = has x
after name (Err cause) f has = tt

spelt-has : (name : List ℕ) (op : Op) → op_name op ≡ name → HasName name (spelt op)
unfolding HasName
spelt-has name op has = go (are_spelt op)
  where
    go : (b : Bool) → HasName name (cond b (Ok op) (Err BadPath))
    go true = has
    go false = tt

have_names : (value : Data) → HaveNames (operations value)
unfolding HaveNames HasName path_operations descriptor_operations operations op_name
have_names value = search (rules, after, spelt-has)

-- and so has the operation of a row that is found by its name
found : (name : List ℕ) (rows : List (List ℕ × Result Op Cause)) → HaveNames rows → HasName name (meaning rows name >>= λ reading. reading)
unfolding HasName HaveNames
found name [] have = tt
found name (row ∷ rows) have = go (bytes_eq name row.0) refl (found name rows have.1)
  where
    go : (b : Bool) → bytes_eq name row.0 ≡ b → HasName name (meaning rows name >>= λ reading. reading)
        → HasName name (cond b (Ok row.1) (meaning rows name) >>= λ reading. reading)
    go false _ later = later
    go true same later = subst (λ (word : List ℕ). HasName word row.1) (sym ((bytes_eq-Decides name row.0).0 same)) have.0

-- what reads in steps has read in each
steps : {A B : Type 0} (a : Result A Cause) (f : A → Result B Cause) (y : B) → (a >>= f) ≡ Ok y → (x : A) × (a ≡ Ok x) × (f x ≡ Ok y)
steps (Ok x) f y reads = (x, refl, reads)
steps (Err cause) f y reads = cc

name_said : (value : Data) (op : Op) → operation_at value ≡ Ok op → text_at (codes "op") value ≡ Ok (op_name op)
unfolding operation_at operation_named HasName
name_said value op reads =
    let name : (x : List ℕ) × (text_at (codes "op") value ≡ Ok x) × (operation_named x value ≡ Ok op) =
    steps (text_at (codes "op") value) (λ name. operation_named name value) op reads in
    let has : op_name op ≡ name.0 = subst (HasName name.0) name.2 (found name.0 (operations value) (have_names value)) in
    name.1 ∙ ap Ok (sym has)

pub line_says : (line : Line) (entry : Entry) → entry_at line ≡ Ok entry → SaysOperation line (op_name entry.op)
unfolding entry_at
line_says line entry reads =
    let value = steps (value_at line.bytes) _ entry reads in
    let pid = steps (number_at (codes "pid") value.0) _ entry value.2 in
    let op = steps (operation_at value.0) _ entry pid.2 in
    let same : op.0 ≡ entry.op = cc in
    record { value = value.0; object = value.1; word_said = name_said value.0 op.0 op.1 ∙ ap (λ (o : Op). Ok (op_name o)) same }
