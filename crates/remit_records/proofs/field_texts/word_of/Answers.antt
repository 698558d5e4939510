use Rattle.std.proofs.Common.{rules}
use Rattle.remit_records.proofs.field_texts.word_of.Goals as goal

pub returns-in-TooLong-clause-word : goal.returns-in-TooLong-clause-word
returns-in-TooLong-clause-word c = search rules
