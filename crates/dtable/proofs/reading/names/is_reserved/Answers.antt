use Rattle.dtable.specs.NameForm.{reserved_names}
use Rattle.dtable.proofs.reading.names.is_reserved.Goals as goal

pub returns : goal.returns
unfolding reserved_names
returns c = c.contains.ensures.value
