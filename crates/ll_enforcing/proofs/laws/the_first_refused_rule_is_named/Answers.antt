use Rattle.ll_enforcing.proofs.Refusing.{none_refused, refused_named}
use Rattle.ll_enforcing.proofs.laws.the_first_refused_rule_is_named.Goals as goal

pub returns-clause-none : goal.returns-clause-none
returns-clause-none c = none_refused

pub returns-clause-named : goal.returns-clause-named
returns-clause-named c = refused_named
