use Rattle.std.proofs.Common.{◌≡◌, ◌↔◌, IsTrue, subst}
use Rattle.plan_zones.proofs.Benefits.{covered_apart, covered_same}
use Rattle.plan_zones.proofs.SameTerms.{terms_decided}
use Rattle.plan_zones.proofs.benefit.Benefit.is_covered_with.Goals as goal

pub returns-then-are_same_terms : goal.returns-then-are_same_terms
returns-then-are_same_terms c =
    let decides = subst (λ texts. IsTrue c.are_same_texts.result ↔ (texts ≡ c.args.remarks.now)) c.as_slice.ensures c.are_same_texts.ensures in
    covered_same c.args.self.now c.in-Covered.own c.args.terms c.in-Covered.texts c.args.remarks.now c.are_same_texts.result c.in-Covered.is
    ((terms_decided c.are_same_terms.result c.in-Covered.own c.args.terms c.are_same_terms.ensures).0 c.if-are_same_terms.true) decides

pub returns-else-are_same_terms : goal.returns-else-are_same_terms
returns-else-are_same_terms c =
    covered_apart c.args.self.now c.in-Covered.own c.args.terms c.in-Covered.texts c.args.remarks.now c.are_same_terms.result c.in-Covered.is (terms_decided c.are_same_terms.result c.in-Covered.own c.args.terms c.are_same_terms.ensures) c.if-are_same_terms.false
