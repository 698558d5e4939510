-- The texts of a run in an order.
use Rattle.claim_gate.specs.Terms.{text_in, texts_of}
use Rattle.orders.specs.RunTexts.{RunTexts}
use Rattle.adjudicate.specs.declared.ordered.OrderedInput.{OrderedInput}

-- the texts that the references in the input point to
abbrev pub ordered_texts : OrderedInput → RunTexts
ordered_texts input = record {
  plan = input.plan.now;
  balances = text_in input.balances;
  files = texts_of input.files.now;
  cutoff = input.cutoff;
}
