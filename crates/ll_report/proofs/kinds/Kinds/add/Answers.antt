use Rattle.std.proofs.Common.{◌≡◌, ◌∙◌, ℕ, List, Some, length, sym, ap, arith}
use Rattle.std.specs.Prelude.{bytes_eq}
use Rattle.std.proofs.lemmas.List.{get_or_read}
use Rattle.ll_report.proofs.KindsCounted.{as_many, blank_counted, blank_firsts, known, known_below, known_counted, known_few, known_firsts}
use Rattle.ll_report.proofs.KindsCounted.{new_counted, new_firsts, unseen}
use Rattle.ll_report.proofs.TextKeys.{at_text, text_added}
use Rattle.ll_report.proofs.kinds.Kinds.add.Goals as goal

pub returns-then-is_empty : goal.returns-then-is_empty
returns-then-is_empty c = λ said counted.
    let blank = sym c.if-is_empty.ensures in record {
      counts = c.in_ok-push.ensures.items ∙ blank_counted said c.args.text.now c.args.self.now.counts.items counted.counts blank;
      firsts = blank_firsts said c.args.text.now _ counted.firsts blank;
    }

pub index_mut-requires : goal.index_mut-requires
index_mut-requires c =
    let counted = c.requires.counted in
    omega (
      arith,
      c.args.self.now.counts.ok,
      known_below counted.0 c.args.text.now _ counted.1.firsts c.in-Some.first.now (sym c.in-Some.ensures.value) c.args.self.now.counts.items counted.1.counts,
    )

pub overflow_add-index_mut : goal.overflow_add-index_mut
overflow_add-index_mut c =
    let counted = c.requires.counted in
    let few =
    known_few counted.0 c.args.text.now _ counted.1.firsts c.in-Some.first.now (sym c.in-Some.ensures.value)
    c.args.self.now.counts.items counted.1.counts in
    let below =
    known_below counted.0 c.args.text.now _ counted.1.firsts c.in-Some.first.now (sym c.in-Some.ensures.value)
    c.args.self.now.counts.items counted.1.counts in
    let read = get_or_read c.args.self.now.counts.items c.in-Some.first.now c.index_mut.result.now below c.index_mut.ensures.value 0 in
    omega (arith, few, read, c.args.self.now.counts.ok, c.args.self.now.counts.small)

pub returns-in_ok-push-in-Some : goal.returns-in_ok-push-in-Some
returns-in_ok-push-in-Some c = λ said counted.
    let below =
    known_below said c.args.text.now _ counted.firsts c.in-Some.first.now (sym c.in-Some.ensures.value) c.args.self.now.counts.items counted.counts in
    let read = get_or_read c.args.self.now.counts.items c.in-Some.first.now c.index_mut.result.now below c.index_mut.ensures.value 0 in
    let first = known said c.args.text.now _ counted.firsts c.in-Some.first.now (sym c.in-Some.ensures.value) in
    record {
      counts =
          c.in_ok-push-in-Some.ensures.items
          ∙ known_counted said c.args.text.now c.args.self.now.counts.items counted.counts c.in-Some.first.now first.0 first.1 first.2
          c.index_mut.result.now read;
      firsts = known_firsts said c.args.text.now _ counted.firsts c.in-Some.first.now (sym c.in-Some.ensures.value);
    }

pub returns-in_ok-push-in-None : goal.returns-in_ok-push-in-None
returns-in_ok-push-in-None c = λ said counted.
    let filled = sym c.if-is_empty.ensures in
    let none = sym c.in-None.ensures.value in
    let added = text_added c.in_ok-key-in-None.key.items c.args.self.now.firsts c.insert.new.self _ c.in_ok-insert-in-None.ensures.updates in
    let key_is : c.in_ok-key-in-None.key.items ≡ c.args.text.now = c.in_ok-key-in-None.ensures.items in
    let number : c.len.result ≡ length said =
    omega (arith, c.len.ensures, c.args.self.now.counts.ok, as_many said c.args.text.now c.args.self.now.counts.items counted.counts) in
    let here = ap (at_text c.insert.new.self) (sym key_is) ∙ added.0 ∙ ap (λ (n : ℕ). Some n) number in
    record {
      counts =
          c.in_ok-push-in-None.ensures.items
          ∙ new_counted said c.args.text.now c.args.self.now.counts.items counted.counts filled
          (unseen said c.args.text.now _ counted.firsts none filled);
      firsts =
          new_firsts said c.args.text.now _ _ counted.firsts none filled here
          (λ other differ. added.1 other (ap (λ (t : List ℕ). bytes_eq t other) key_is ∙ differ));
    }
