use Rattle.ll_policy.proofs.Alike.{refused_in_region}
use Rattle.ll_policy.proofs.laws.regions_stand_for_their_objects.Goals as goal

pub returns : goal.returns
returns c tree layers nodes chain path right listed on under = refused_in_region tree layers nodes chain path right listed on under
