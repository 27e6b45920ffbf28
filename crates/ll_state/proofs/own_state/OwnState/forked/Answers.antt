-- A child has the flags, the domain and the open descriptors of its parent.
use Rattle.std.proofs.Common.{rules, ◌∙◌}
use Rattle.ll_state.proofs.own_state.OwnState.forked.Goals as goal

pub returns : goal.returns
returns c = λ tree layers state agrees. rw c.in_ok-domain_again.ensures (record {
  no_new_privs = agrees.no_new_privs;
  admin = agrees.admin;
  indices = agrees.indices;
  domain = agrees.domain;
  descriptors = λ fd. c.in_ok-clone.ensures.cases fd ∙ agrees.descriptors fd;
})

pub returns-in_err-domain_again : goal.returns-in_err-domain_again
returns-in_err-domain_again c = search rules

pub returns-in_err-clone : goal.returns-in_err-clone
returns-in_err-clone c = search rules
