use Rattle.dtable.specs.NameForm.{family_names}
use Rattle.dtable.proofs.reading.names.is_family_name.Goals as goal

pub returns : goal.returns
unfolding family_names
returns c = c.contains.ensures.value
