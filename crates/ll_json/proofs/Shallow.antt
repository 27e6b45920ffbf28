-- No line of the report nests deeper than its readers read.
use Rattle.std.proofs.Common.{ℕ, Bool, zero, suc, ◌+◌, ◌-◌, ◌≤◌, List, [], ◌∷◌, ◌++◌, codes, map, get_or, Option, Some, None, slice_get, arith}
use Rattle.json.specs.Json.{Json, string}
use Rattle.json.specs.Tree.{depth, items_depth, members_depth}
use Rattle.ll_rights.specs.Rights as files
use Rattle.ll_rights.specs.Rights.{FsRight}
use Rattle.ll_rights.specs.NetRights as network
use Rattle.ll_rights.specs.NetRights.{NetRight}
use Rattle.ll_tree.specs.Trees.{Entry}
use Rattle.ll_trace.specs.declared.op.Op.{Op}
use Rattle.ll_trace.specs.declared.op.Record.{Record}
use Rattle.ll_trace.specs.Operations.{paths_of}
use Rattle.ll_semantics.specs.declared.answer.Answer.{Answer}
use Rattle.ll_semantics.specs.declared.answer.Answer.TheVariants.{Allowed, Moot, Refused}
use Rattle.ll_reasons.specs.Conditions as conditions
use Rattle.ll_reasons.specs.Conditions.{Condition}
use Rattle.ll_reasons.specs.Explanations.{Explanation, nothing, objections, failure, mootness, explained_at, origins_at}
use Rattle.ll_reasons.specs.Objections.{Objection, missing, closed, gained, mounting, kept}
use Rattle.ll_reasons.specs.Reasons as reasons
use Rattle.ll_reasons.specs.Reasons.{Reason}
use Rattle.ll_semantics.specs.Worlds.{judged}
use Rattle.ll_explain.specs.Words.{words_of}
use Rattle.ll_report.specs.Calls.{port_of}
use Rattle.ll_report.specs.Found.{Found}
use Rattle.ll_report.specs.declared.options.Shown.{Shown}
use Rattle.ll_report.specs.Spans.{spans_of}
use Rattle.ll_json.specs.Parts.{Named, array_of, items_of, members_of}
use Rattle.ll_json.specs.Records.{Version, answer_members, answers_json, bare_layer, call_members, explained_if, layers_json, members_at, members_of_both}
use Rattle.ll_json.specs.Records.{members_text, span_json}
use Rattle.ll_json.specs.Records.{paths_members, port_members, reason_members, said_members, why_members}
use Rattle.ll_json.specs.Reports.{found_of, kind_at, last_json, row_json, said_under, totals_from}
use Rattle.ll_json.specs.Why.{by_word, condition_json, layer_json, objection_json, port_rights_json, reason_json, rights_json}

-- values made one by one, none of which is deep
mapped : {A : Type 0} (f : A → Json) (n : ℕ) → ((a : A) → depth (f a) ≤ n) → (list : List A) → items_depth (items_of (map f list)) ≤ n
mapped f n each [] = omega arith
mapped f n each (a ∷ list) = omega (arith, each a, mapped f n each list)

named : (rights : List FsRight) → depth (rights_json rights) ≤ 1
named rights = omega (arith, mapped string 0 (λ word. omega arith) (words_of files.name_of rights))

named_on_ports : (rights : List NetRight) → depth (port_rights_json rights) ≤ 1
named_on_ports rights = omega (arith, mapped string 0 (λ word. omega arith) (words_of network.name_of rights))

objection : (records : List Record) (o : Objection) → depth (objection_json records o) ≤ 2
unfolding objection_json
objection records (missing rights path) = omega (arith, named rights)
objection records (closed rights port) = omega (arith, named_on_ports rights)
objection records (gained object rights directory) = omega (arith, named rights)
objection records mounting = omega arith
objection records (kept right index) = omega (arith, named (right ∷ []))

layer : (records : List Record) (layers : List ℕ) (said : ℕ × List Objection) → depth (layer_json records layers said) ≤ 4
unfolding layer_json
layer records layers said = omega (arith, mapped (objection_json records) 2 (objection records) said.1)

bare : (numbers : List ℕ) → items_depth (items_of (map bare_layer numbers)) ≤ 1
bare numbers = mapped bare_layer 1 (λ number. omega arith) numbers

all_layers : (records : List Record) (layers numbers : List ℕ) (why : Explanation) → depth (layers_json records layers numbers why) ≤ 5
unfolding layers_json
all_layers records layers numbers nothing = omega (arith, bare numbers)
all_layers records layers numbers (objections said) = omega (arith, mapped (layer_json records layers) 4 (layer records layers) said)
all_layers records layers numbers (failure condition) = omega (arith, bare numbers)
all_layers records layers numbers (mootness reason) = omega (arith, bare numbers)

condition : (c : Condition) → depth (condition_json c) ≤ 2
unfolding by_word condition_json
condition (conditions.unknown abi rights) = omega (arith, named rights)
condition (conditions.portless abi) = omega arith
condition conditions.rightless = omega arith
condition (conditions.unheld rs) = omega arith
condition (conditions.unhandled rights) = omega (arith, named rights)
condition (conditions.unhandled_on_ports rights) = omega (arith, named_on_ports rights)
condition (conditions.only_for_directories rights path) = omega (arith, named rights)
condition (conditions.no_port port) = omega arith
condition conditions.unprivileged = omega arith
condition conditions.full = omega arith
condition conditions.other = omega arith

reason : (r : Reason) → depth (reason_json r) ≤ 1
unfolding by_word reason_json
reason (reasons.absent path) = omega arith
reason (reasons.no_directory path) = omega arith
reason (reasons.present path) = omega arith
reason (reasons.of_kind path kind) = omega arith
reason reasons.root = omega arith
reason (reasons.unmoved path) = omega arith
reason (reasons.beneath_itself from to) = omega arith
reason (reasons.over_itself from to) = omega arith
reason (reasons.mixed from to) = omega arith
reason (reasons.open_already fd) = omega arith
reason (reasons.unopened fd) = omega arith
reason (reasons.not_for_writing fd) = omega arith
reason (reasons.held_already rs) = omega arith
reason (reasons.unheld rs) = omega arith
reason reasons.unsupported = omega arith
reason reasons.unenforced = omega arith

-- ---- the members of an answer

known : (why : Option Reason) → members_depth (members_of (reason_members why)) ≤ 1
known None = omega arith
known (Some why) = omega (arith, reason why)

told : (why : Explanation) → members_depth (members_of (why_members why)) ≤ 2
unfolding why_members
told nothing = omega arith
told (objections said) = omega arith
told (failure c) = omega (arith, condition c)
told (mootness why) = omega (arith, known why)

answered : (records : List Record) (layers : List ℕ) (answer : Answer) (why : Explanation)
    → members_depth (members_of (answer_members records layers answer why)) ≤ 5
unfolding answer_members
answered records layers Allowed why = omega arith
answered records layers Moot why = omega (arith, told why)
answered records layers (Refused error numbers) why = omega (arith, all_layers records layers numbers why, told why)

of_both : (explains : Bool) (tree : List Entry) (version : Version) (index : ℕ) (r : Option Record) (answer : Option Answer)
    → members_depth (members_of (members_of_both explains tree version index r answer)) ≤ 5
of_both explains tree version index (Some r) (Some answer) =
    answered version.records (origins_at tree version.abi version.records index r.process.0).layers answer
    (explained_if explains (explained_at tree version.abi version.records index r answer))
of_both explains tree version index (Some r) None = omega arith
of_both explains tree version index None answer = omega arith

at_index : (explains : Bool) (tree : List Entry) (version : Version) (index : ℕ) → members_depth (members_of (members_at explains tree version index)) ≤ 5
unfolding members_at
at_index explains tree version index =
    of_both explains tree version index (slice_get version.records index) (slice_get (judged tree version.abi version.records) index)

said_at : (shown : Shown) (tree : List Entry) (index : ℕ) (versions : List Version) (place : ℕ)
    → members_depth (members_of (get_or (said_under shown tree versions index) place [])) ≤ 5
said_at shown tree index [] place = omega arith
said_at shown tree index (version ∷ others) zero = at_index shown.explanations tree version index
said_at shown tree index (version ∷ others) (suc place) = said_at shown tree index others place

pub shallow_row : (shown : Shown) (tree : List Entry) (oldest : ℕ) (versions : List Version) (index : ℕ) (r : Record)
    → depth (row_json shown tree oldest versions index r) ≤ 127
shallow_row shown tree oldest versions index r =
    let said = said_under shown tree versions index in
    omega (
      arith,
      mapped (span_json oldest said) 6 (λ span. omega (arith, said_at shown tree index versions (span.first - oldest)))
          (spans_of oldest (map members_text said)),
    )

both : (first more : List Named) (n : ℕ) → members_depth (members_of first) ≤ n → members_depth (members_of more) ≤ n
    → members_depth (members_of (first ++ more)) ≤ n
both [] more n first rest = rest
both (named ∷ others) more n first rest = omega (arith, first, both others more n (omega (arith, first)) rest)

on_paths : (paths : List (List ℕ)) → members_depth (members_of (paths_members paths)) ≤ 2
on_paths [] = omega arith
on_paths (path ∷ more) = omega (arith, mapped string 0 (λ text. omega arith) (path ∷ more))

on_port : (port : Option ℕ) → members_depth (members_of (port_members port)) ≤ 2
on_port None = omega arith
on_port (Some port) = omega arith

call : (op : Op) → members_depth (members_of (call_members op)) ≤ 2
call op = omega (arith, both (paths_members (paths_of op)) (port_members (port_of op)) 2 (on_paths (paths_of op)) (on_port (port_of op)))

pub shallow_kind : (shown : Shown) (tree : List Entry) (oldest : ℕ) (versions : List Version) (index records : ℕ) (r : Record)
    → depth (kind_at shown tree oldest versions index records r) ≤ 127
shallow_kind shown tree oldest versions index records r =
    let said = said_under shown tree versions index in
    let answers : List Json = answers_json oldest said in
    let few : items_depth (items_of answers) ≤ 6 =
    mapped (span_json oldest said) 6 (λ span. omega (arith, said_at shown tree index versions (span.first - oldest)))
    (spans_of oldest (map members_text said)) in
    let deep : members_depth (members_of (said_members r answers)) ≤ 7 =
    both (call_members r.op) ((codes "answers", array_of answers) ∷ []) 7 (omega (arith, call r.op)) (omega (arith, few)) in
    omega (arith, deep)

total : (abi : ℕ) (founds : List Found) → items_depth (items_of (totals_from abi founds)) ≤ 1
unfolding totals_from
total abi [] = omega arith
total abi (found ∷ others) = omega (arith, total (abi + 1) others)

pub shallow_last : (shown : Shown) (tree : List Entry) (oldest : ℕ) (versions : List Version) (program : List ℕ)
    → depth (last_json shown tree oldest versions program) ≤ 127
shallow_last shown tree oldest versions program = omega (arith, total oldest (found_of shown tree versions))
