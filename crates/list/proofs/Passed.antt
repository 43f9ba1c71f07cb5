-- What is known of a list that passed the check.
use Rattle.list.specs.Check.{Valid}
use Rattle.list.specs.declared.valid.ValidList.{ValidList}
use Rattle.list.proofs.Given.{accepted_exactly_when}

pub list_valid : (l : ValidList) → Valid l.entries.now l.vertices
list_valid l = (accepted_exactly_when l.entries.now l.vertices).0 l.accepted
