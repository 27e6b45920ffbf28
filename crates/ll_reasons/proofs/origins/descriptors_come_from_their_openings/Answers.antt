use Rattle.ll_reasons.proofs.DescriptorsMade.{descriptor_made, descriptor_open, descriptor_earlier}
use Rattle.ll_reasons.proofs.origins.descriptors_come_from_their_openings.Goals as goal

pub returns-clause-descriptors : goal.returns-clause-descriptors
returns-clause-descriptors c = λ tree abi records index process fd. descriptor_made tree abi records index process fd

pub returns-clause-open : goal.returns-clause-open
returns-clause-open c = λ tree abi records index process fd. descriptor_open tree abi records index process fd

pub returns-clause-openings : goal.returns-clause-openings
returns-clause-openings c = λ tree abi records index process fd. descriptor_earlier tree abi records index process fd
