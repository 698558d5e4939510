use Rattle.std.proofs.Common.{ap, ◌∙◌}
use Rattle.toml.specs.Data.{string}
use Rattle.dtable.proofs.Exits.{same_text, string_of}
use Rattle.dtable.proofs.reading.table_list.read_hit_word.Goals as goal

pub returns-in-Some : goal.returns-in-Some
returns-in-Some c = string_of _ _ c.in_ok-text_of.ensures.ok ∙ ap string c.in-Some.ensures.named

pub returns-in-None : goal.returns-in-None
returns-in-None c _ hit h = c.in-None.ensures.none hit (same_text _ _ _ c.in_ok-text_of.ensures.ok h)
