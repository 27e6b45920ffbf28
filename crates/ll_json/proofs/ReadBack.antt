-- A value whose numbers fit, and that does not nest too deep, reads back.
use Rattle.std.proofs.Common.{◌≡◌, ℕ, ◌≤◌, [], List, Option, Some, option_map, option_and_then, refl, sym, ap, ◌∙◌, subst, append-nil}
use Rattle.json.specs.Json as json
use Rattle.json.specs.Json.{Json, null, boolean, number, string, array, object, no_items, item, no_members, member, value, if_last}
use Rattle.json.specs.Print.{IsNumber, print}
use Rattle.json.specs.Tree.{depth, json_tokens, HasNumbers, ItemsHaveNumbers, MembersHaveNumbers}
use Rattle.json.proofs.Printed.Decimals.{IsNumber-decimal}
use Rattle.json.proofs.Printed.Tokens.{tokens-print}
use Rattle.json.proofs.Printed.Trees.{ArePrintable-json_tokens, value-json_tokens}
use Rattle.serde_json.specs.Data as read_value
use Rattle.serde_json.specs.Data.{Data, Num, unsigned}
use Rattle.serde_json.specs.Read.{max_depth, number_of, of_items, of_json, of_members, read}
use Rattle.serde_json.proofs.Numbers.{number_of-decimal}
use Rattle.ll_tree.specs.Trees.{Entry}
use Rattle.ll_trace.specs.declared.op.Record.{Record}
use Rattle.ll_report.specs.declared.options.Shown.{Shown}
use Rattle.ll_json.specs.Reports.{kind_at, last_json, row_json}
use Rattle.ll_json.specs.Records.{Version}
use Rattle.ll_json.proofs.Shallow.{shallow_kind, shallow_last, shallow_row}
use Rattle.ll_json.proofs.Visible.{visible}
use Rattle.ll_json.specs.ReadBack.{FitsWords, ItemsFitWords, MembersFitWords, ReadsBack}

mutual
  has_numbers : (j : Json) → FitsWords j → HasNumbers j
  has_numbers null fits = tt
  has_numbers (boolean b) fits = tt
  has_numbers (number text) fits = subst IsNumber (sym fits.2) (IsNumber-decimal fits.0 fits.1)
  has_numbers (string s) fits = tt
  has_numbers (array js) fits = items_have_numbers js fits
  has_numbers (object ms) fits = members_have_numbers ms fits

  items_have_numbers : (js : json.Items) → ItemsFitWords js → ItemsHaveNumbers js
  items_have_numbers no_items fits = tt
  items_have_numbers (item j js) fits = (has_numbers j fits.0, items_have_numbers js fits.1)

  members_have_numbers : (ms : json.Members) → MembersFitWords ms → MembersHaveNumbers ms
  members_have_numbers no_members fits = tt
  members_have_numbers (member k j ms) fits = (has_numbers j fits.0, members_have_numbers ms fits.1)

-- it stands for something
abbrev Means : {A : Type 0} → Option A → Type 0
Means {A} o = (a : A) × (o ≡ Some a)

means_map : {A B : Type 0} (f : A → B) (o : Option A) → Means o → Means (option_map f o)
means_map f o some = (f some.0, ap (option_map f) some.1)

means_then : {A B : Type 0} (f : A → Option B) (o : Option A) → Means o → ((a : A) → Means (f a)) → Means (option_and_then f o)
means_then f o some next = let more = next some.0 in (more.0, ap (option_and_then f) some.1 ∙ more.1)

read-print : (j : Json) → HasNumbers j → depth j ≤ max_depth → read (print (json_tokens j)) ≡ of_json j
read-print j numbers shallow =
    ap (λ tokens. option_and_then of_json (option_and_then (λ p. if_last p.0 p.1) (value max_depth tokens)))
    (tokens-print (json_tokens j) (ArePrintable-json_tokens j numbers) ∙ sym (append-nil (json_tokens j)))
    ∙ ap (λ found. option_and_then of_json (option_and_then (λ p. if_last p.0 p.1) found)) (value-json_tokens j max_depth [] shallow)

mutual
  means : (j : Json) → FitsWords j → Means (of_json j)
  means null fits = (read_value.null, refl)
  means (boolean b) fits = (read_value.boolean b, refl)
  means (number text) fits =
      let said : number_of text ≡ Some (unsigned fits.0) = ap number_of fits.2 ∙ number_of-decimal fits.0 fits.1 in
      means_map read_value.number (number_of text) (unsigned fits.0, said)
  means (string s) fits = (read_value.string s, refl)
  means (array js) fits = means_map read_value.array (of_items js) (items_mean js fits)
  means (object ms) fits = means_map read_value.object (of_members ms read_value.no_members) (members_mean ms read_value.no_members fits)

  items_mean : (js : json.Items) → ItemsFitWords js → Means (of_items js)
  items_mean no_items fits = (read_value.no_items, refl)
  items_mean (item j js) fits = means_then _ (of_json j) (means j fits.0) (λ d. means_map (read_value.item d) (of_items js) (items_mean js fits.1))

  members_mean : (ms : json.Members) (found : read_value.Members) → MembersFitWords ms → Means (of_members ms found)
  members_mean no_members found fits = (found, refl)
  members_mean (member k j ms) found fits = means_then _ (of_json j) (means j fits.0) (λ d. members_mean ms (read_value.put k d found) fits.1)

reads_back : (j : Json) → FitsWords j → depth j ≤ max_depth → ReadsBack j
reads_back j fits shallow =
    let said = means j fits in
    record { seen = said.0; meant = said.1; read_as = read-print j (has_numbers j fits) shallow ∙ said.1; visible = visible j fits }

pub row_reads_back : (shown : Shown) (tree : List Entry) (oldest : ℕ) (versions : List Version) (index : ℕ) (r : Record)
    → FitsWords (row_json shown tree oldest versions index r)
    → ReadsBack (row_json shown tree oldest versions index r)
row_reads_back shown tree oldest versions index r fits = reads_back _ fits (shallow_row shown tree oldest versions index r)

pub kind_reads_back : (shown : Shown) (tree : List Entry) (oldest : ℕ) (versions : List Version) (index records : ℕ) (r : Record)
    → FitsWords (kind_at shown tree oldest versions index records r)
    → ReadsBack (kind_at shown tree oldest versions index records r)
kind_reads_back shown tree oldest versions index records r fits = reads_back _ fits (shallow_kind shown tree oldest versions index records r)

pub last_reads_back : (shown : Shown) (tree : List Entry) (oldest : ℕ) (versions : List Version) (program : List ℕ)
    → FitsWords (last_json shown tree oldest versions program)
    → ReadsBack (last_json shown tree oldest versions program)
last_reads_back shown tree oldest versions program fits = reads_back _ fits (shallow_last shown tree oldest versions program)
