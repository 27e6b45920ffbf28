-- The members of an object that were passed over, those that their slots show, and the tokens that are left.
use Rattle.std.proofs.Common.{◌≡◌, ℕ, ◌<◌, ◌≤◌, ◌-◌, ◌&&◌, Bool, true, false, cond, List, length, Option, Some, None, refl, sym, ap, ◌∙◌, arith, true≢false}
use Rattle.std.specs.Str.{bytes_eq}
use Rattle.json.specs.Token.{Token}
use Rattle.json.specs.Json as json
use Rattle.json.specs.Find.{later_or, get_member}
use Rattle.json.proofs.Grammar.{read_key-shorter, members_end, members_no_key, members_more}
use Rattle.ll_lines.specs.Values.{is_in_range, have_range}
use Rattle.ll_members.specs.Slots.{spelt, IsReadFrom, AreReadFrom, Keeps, ShowMembers, AreMissing, behind, behind_value, behind_members}
use Rattle.ll_members.specs.declared.row.Members.{Members}
use Rattle.ll_members.specs.declared.row.Slot.{Slot}
use Rattle.ll_members.proofs.WalkLemmas.{behind-map, member_fails}

-- members before others
abbrev pub in_front : json.Members → json.Members → json.Members
in_front json.no_members rest = rest
in_front (json.member k j ms) rest = json.member k j (in_front ms rest)

pub in_front-none : (ms : json.Members) → in_front ms json.no_members ≡ ms
in_front-none json.no_members = refl
in_front-none (json.member k j ms) = ap (json.member k j) (in_front-none ms)

pub in_front-one : (ms : json.Members) (k : List ℕ) (j : json.Json) (rest : json.Members)
    → in_front ms (json.member k j rest) ≡ in_front (in_front ms (json.member k j json.no_members)) rest
in_front-one json.no_members k j rest = refl
in_front-one (json.member l i ms) k j rest = ap (json.member l i) (in_front-one ms k j rest)

latest : (o p q : Option json.Json) → later_or (later_or o p) q ≡ later_or o (later_or p q)
latest (Some j) p q = refl
latest None p q = refl

only : (o : Option json.Json) → later_or None o ≡ later_or o None
only (Some j) = refl
only None = refl

pub get-one_more : (name : List ℕ) (ms : json.Members) (k : List ℕ) (j : json.Json)
    → get_member name (in_front ms (json.member k j json.no_members)) ≡ later_or (cond (bytes_eq k name) (Some j) None) (get_member name ms)
get-one_more name json.no_members k j = only (cond (bytes_eq k name) (Some j) None)
get-one_more name (json.member l i ms) k j =
    ap (λ o. later_or o (cond (bytes_eq l name) (Some i) None)) (get-one_more name ms k j) ∙ latest (cond (bytes_eq k name) (Some j) None) _ _

first_of : (b c : Bool) → b && c ≡ true → b ≡ true
first_of true c e = refl
first_of false c e = e

second_of : (b c : Bool) → b && c ≡ true → c ≡ true
second_of true c e = e
second_of false c e = absurd (true≢false (sym e))

range-in_front : (ms rest : json.Members) → have_range ms ≡ true → have_range (in_front ms rest) ≡ have_range rest
range-in_front json.no_members rest all = refl
range-in_front (json.member l i ms) rest all =
    rw (first_of (is_in_range i) (have_range ms) all) (range-in_front ms rest (second_of (is_in_range i) (have_range ms) all))

range-one_more : (ms : json.Members) (k : List ℕ) (j : json.Json) → have_range ms ≡ true → is_in_range j ≡ true
    → have_range (in_front ms (json.member k j json.no_members)) ≡ true
range-one_more ms k j all one = range-in_front ms (json.member k j json.no_members) all ∙ rw one refl

-- the members so far, and those that are left

none_before : (r : Option (json.Members × List Token)) → r ≡ json.parse_map (in_front json.no_members) r
none_before None = refl
none_before (Some p) = refl

one_more : (ms : json.Members) (k : List ℕ) (j : json.Json) (r : Option (json.Members × List Token))
    → json.parse_map (in_front ms) (json.parse_map (json.member k j) r) ≡ json.parse_map (in_front (in_front ms (json.member k j json.no_members))) r
one_more ms k j None = refl
one_more ms k j (Some p) = ap (λ all. Some (all, p.1)) (in_front-one ms k j p.0)

pub record HasPassed (depth : ℕ) (start left : List Token) : Type 0 where
  pub seen : json.Members
  pub bound : ℕ
  pub enough : length left ≤ bound
  pub shorter : length left ≤ length start
  pub are : json.members (json.value depth) (length start) start ≡ json.parse_map (in_front seen) (json.members (json.value depth) bound left)
  pub fit : have_range seen ≡ true

pub passed_none : (depth : ℕ) (start : List Token) → HasPassed depth start start
passed_none depth start =
    record { seen = json.no_members; bound = length start; enough = omega arith; shorter = omega arith; are = none_before _; fit = refl }

pub passed_more : (depth : ℕ) (start left after_key new : List Token) (k : List ℕ) (slot : Slot) → HasPassed depth start left
    → json.read_key left ≡ Some (Some k, after_key) → IsReadFrom depth after_key new slot → length new < length after_key → HasPassed depth start new
passed_more depth start left after_key new k slot so_far key read shorter =
    let n = so_far.bound in
    let p = json.value depth in
    let less = read_key-shorter left (Some k) after_key key in
    record {
      seen = in_front so_far.seen (json.member k read.value json.no_members);
      bound = n - 1;
      enough = omega (arith, so_far.enough);
      shorter = omega (arith, so_far.shorter);
      are = so_far.are
          ∙ ap (json.parse_map (in_front so_far.seen)) (members_more p n k left after_key new read.value (omega (arith, so_far.enough)) key read.is)
          ∙ one_more so_far.seen k read.value (json.members p (n - 1) new);
      fit = range-one_more so_far.seen k read.value so_far.fit read.fits;
    }

pub passed_no_key : (depth : ℕ) (start left : List Token) → HasPassed depth start left → json.read_key left ≡ None → behind_members depth start ≡ None
passed_no_key depth start left so_far none =
    ap (behind have_range) (so_far.are ∙ ap (json.parse_map (in_front so_far.seen)) (members_no_key (json.value depth) so_far.bound left none))

pub passed_no_value : (depth : ℕ) (start left after_key : List Token) (k : List ℕ) → HasPassed depth start left → json.read_key left ≡ Some (Some k, after_key)
    → behind_value depth after_key ≡ None → behind_members depth start ≡ None
passed_no_value depth start left after_key k so_far key none =
    let rest = json.members (json.value depth) so_far.bound left in
    ap (behind have_range) so_far.are ∙ behind-map have_range have_range (in_front so_far.seen) (λ ms. range-in_front so_far.seen ms so_far.fit) rest
    ∙ member_fails (json.value depth) so_far.bound left after_key k key none

passed_whole : (depth : ℕ) (start left new : List Token) → (so_far : HasPassed depth start left) → json.read_key left ≡ Some (None, new)
    → json.members (json.value depth) (length start) start ≡ Some (so_far.seen, new)
passed_whole depth start left new so_far end =
    so_far.are ∙ ap (json.parse_map (in_front so_far.seen)) (members_end (json.value depth) so_far.bound left new so_far.enough end)
    ∙ ap (λ ms. Some (ms, new)) (in_front-none so_far.seen)

pub passed_all : (depth : ℕ) (start left new : List Token) → HasPassed depth start left → json.read_key left ≡ Some (None, new)
    → behind_members depth start ≡ Some new
passed_all depth start left new so_far end = ap (behind have_range) (passed_whole depth start left new so_far end) ∙ rw so_far.fit refl

-- the members so far show in their slots

pub record HasFilled (depth : ℕ) (start left : List Token) (members : Members) : Type 0 where
  pub passed : HasPassed depth start left
  pub shown : ShowMembers members passed.seen

pub filled_none : (depth : ℕ) (start : List Token) (members : Members) → AreMissing members → HasFilled depth start start members
unfolding passed_none
filled_none depth start members missing = record { passed = passed_none depth start; shown = λ name. rw (missing name) refl }

pub filled_more : (depth : ℕ) (start left after_key new : List Token) (k : List ℕ) (slot : Slot) (before after : Members) → HasFilled depth start left before
    → json.read_key left ≡ Some (Some k, after_key) → IsReadFrom depth after_key new slot → length new < length after_key
    → Keeps k slot before after → HasFilled depth start new after
unfolding passed_more
filled_more depth start left after_key new k slot before after so_far key read shorter kept =
    let seen = so_far.passed.seen in
    record {
      passed = passed_more depth start left after_key new k slot so_far.passed key read shorter;
      shown = λ name. rw (get-one_more (spelt name) seen k read.value) (kept.shows read.value read.shows name _ (so_far.shown name));
    }

pub filled_all : (depth : ℕ) (start left new : List Token) (members : Members) → HasFilled depth start left members → json.read_key left ≡ Some (None, new)
    → AreReadFrom depth start new members
filled_all depth start left new members so_far end = record {
  entries = so_far.passed.seen;
  are = passed_whole depth start left new so_far.passed end;
  fit = so_far.passed.fit;
  shown = so_far.shown;
}

pub ruleset passing = (passed_none, passed_more, passed_no_value, passed_all)

pub ruleset filling = (filled_none, passed_no_value)
