-- The storage of a table's answers.
use Rattle.std.specs.Prelude.{List}
use Rattle.tables.specs.declared.answers.AnswerList.{AnswerList}
use Rattle.tables.specs.declared.answers.AnswerList.TheVariants.{Lent, Made}
use Rattle.tables.specs.declared.environment.Answer.{Answer}

-- a table's answers, borrowed or owned
abbrev pub answers_held : AnswerList → List Answer
answers_held (Lent answers) = answers.now
answers_held (Made answers) = answers
