-- The numbers of the layers of a domain that pass a test, one layer after another.
use Rattle.std.proofs.Common.{◌≡◌, ℕ, ◌+◌, ◌<◌, ◌≤◌, Bool, true, false, not, cond, List, [], ◌∷◌, ◌++◌, map, length, get_or, drop, refl, sym, ap, ◌∙◌, arith}
use Rattle.std.proofs.Common.{append_assoc, append-nil, add-one}
use Rattle.std.specs.Prelude.{All}
use Rattle.std.proofs.lemmas.List.Elements.{All-append, All-cons, All-nil, All-weaker}
use Rattle.std.proofs.lemmas.List.{drop_all}
use Rattle.std.proofs.Math.Seq.{drop-cons}
use Rattle.ll_rights.specs.declared.net.Net.{Net}
use Rattle.ll_rights.specs.Rights.{is_empty}
use Rattle.ll_rules.specs.declared.domain.LayerId.{LayerId}
use Rattle.ll_rules.specs.Layers.{RulesOn}
use Rattle.ll_rules.specs.Checks.{numbers_from, lacks_on_port, refusing_port, refusing_mount}
use Rattle.ll_rules.specs.KeptLayers.{layer_at, domain_of}

-- the layers that a list of names stands for
pub numbers_from-map : {A B : Type 0} (test : B → Bool) (h : A → B) (number : ℕ) (xs : List A)
    → numbers_from test number (map h xs) ≡ numbers_from (λ x. test (h x)) number xs
unfolding numbers_from
numbers_from-map test h number [] = refl
numbers_from-map test h number (x ∷ xs) = ap (λ (rest : List ℕ). cond (test (h x)) (number ∷ []) [] ++ rest) (numbers_from-map test h (number + 1) xs)

-- one layer more
noted_next : {A : Type 0} (test : A → Bool) (all : List A) (index : ℕ) (d : A) (so_far next total : List ℕ) (refuses : Bool) → index < length all
    → refuses ≡ test (get_or all index d) → next ≡ so_far ++ cond refuses ((index + 1) ∷ []) []
    → so_far ++ numbers_from test (index + 1) (drop index all) ≡ total
    → next ++ numbers_from test (index + 1 + 1) (drop (index + 1) all) ≡ total
unfolding numbers_from
noted_next test all index d so_far next total refuses inside tells noted before =
    let here : drop index all ≡ get_or all index d ∷ drop (index + 1) all = rw add-one (drop-cons all index d inside) in
    let split : so_far ++ (cond (test (get_or all index d)) ((index + 1) ∷ []) [] ++ numbers_from test (index + 1 + 1) (drop (index + 1) all)) ≡ total =
    rw here at before in
    rw (noted, tells, append_assoc) split

-- no layer is left
pub noted_all : {A : Type 0} (test : A → Bool) (all : List A) (index : ℕ) (so_far total : List ℕ) → length all ≤ index
    → so_far ++ numbers_from test (index + 1) (drop index all) ≡ total → so_far ≡ total
unfolding numbers_from
noted_all test all index so_far total done before =
    let nothing : drop index all ≡ [] = drop_all index all done in
    sym (append-nil so_far) ∙ (rw nothing at before)

-- what is noted stays below the next number
noted_below : (so_far next : List ℕ) (index : ℕ) (refuses : Bool) → next ≡ so_far ++ cond refuses ((index + 1) ∷ []) []
    → All (λ number. number < index + 1) so_far → All (λ number. number < index + 1 + 1) next
noted_below so_far next index refuses noted below =
    rw noted (All-append (λ (number : ℕ). number < index + 1 + 1) so_far (cond refuses ((index + 1) ∷ []) [])
    (All-weaker (λ (number : ℕ). number < index + 1) (λ (number : ℕ). number < index + 1 + 1) (λ number less. omega arith) so_far below) (last refuses))
  where
    last : (refuses : Bool) → All (λ number. number < index + 1 + 1) (cond refuses ((index + 1) ∷ []) [])
    last true = All-cons (λ (number : ℕ). number < index + 1 + 1) (index + 1) [] (omega arith) (All-nil (λ (number : ℕ). number < index + 1 + 1))
    last false = All-nil (λ (number : ℕ). number < index + 1 + 1)

-- both, where a layer was noted if it refuses
pub noted_more : {A : Type 0} (test : A → Bool) (all : List A) (index : ℕ) (d : A) (so_far next total : List ℕ) (refuses : Bool) → index < length all
    → refuses ≡ test (get_or all index d) → next ≡ so_far ++ cond refuses ((index + 1) ∷ []) []
    → so_far ++ numbers_from test (index + 1) (drop index all) ≡ total → All (λ number. number < index + 1) so_far
    → record {
      so_far : next ++ numbers_from test (index + 1 + 1) (drop (index + 1) all) ≡ total;
      below : All (λ number. number < index + 1 + 1) next;
    }
noted_more test all index d so_far next total refuses inside tells noted before low = record {
  so_far = noted_next test all index d so_far next total refuses inside tells noted before;
  below = noted_below so_far next index refuses noted low;
}

-- ---- by the names of layers

-- whether the layer of a name lacks something wanted on a port
unfoldable pub refuses_on_port : List (RulesOn ℕ) → ℕ → Net → LayerId → Bool
refuses_on_port layers port wanted id = lacks_on_port (layer_at layers id) port wanted

pub refusing_port_by_name : (layers : List (RulesOn ℕ)) (ids : List LayerId) (port : ℕ) (wanted : Net)
    → numbers_from (refuses_on_port layers port wanted) 1 ids ≡ refusing_port (domain_of layers ids) port wanted
unfolding refuses_on_port
refusing_port_by_name layers ids port wanted = sym (numbers_from-map (λ layer. lacks_on_port layer port wanted) (layer_at layers) 1 ids)

-- whether the layer of a name handles any right for files
unfoldable pub refuses_mount : List (RulesOn ℕ) → LayerId → Bool
refuses_mount layers id = not (is_empty (layer_at layers id).handled_files)

pub refusing_mount_by_name : (layers : List (RulesOn ℕ)) (ids : List LayerId)
    → numbers_from (refuses_mount layers) 1 ids ≡ refusing_mount (domain_of layers ids)
unfolding refuses_mount
refusing_mount_by_name layers ids = sym (numbers_from-map (λ layer. not (is_empty layer.handled_files)) (layer_at layers) 1 ids)
