use Rattle.ll_explanations.proofs.moved.move_request.Goals as goal

pub returns-clause-request : goal.returns-clause-request
returns-clause-request c = record {
  is_tree = c.leaving-source.ensures.tree;
  moved = c.requires.moved;
  target = c.requires.target;
  source = c.leaving-source.ensures.inside;
  from = c.leaving-source.ensures.path;
  leaving = c.leaving-source.ensures.rights;
  destination = c.entering-destination.ensures.inside;
  into = c.entering-destination.ensures.path;
  entering = c.entering-destination.ensures.rights;
}
