use Rattle.std.proofs.Common.{◌≡◌, ℕ, ℤ, pos, codes, Some, inl, inr, refl, rules, sym, ap, ◌∙◌}
use Rattle.std.proofs.lemmas.Option.{same_Some}
use Rattle.toml.specs.Data.{Data, integer, get, as_integer}
use Rattle.toml.specs.View.{view}
use Rattle.tables.specs.Plan.{IsVersion}
use Rattle.dtable.specs.PlanFile.{IsVersionOf}
use Rattle.dtable.proofs.reading.read_version.Goals as goal

integer_of : (d : Data) (n : ℤ) → as_integer d ≡ Some n → d ≡ integer n
integer_of (integer m) n read = ap integer (same_Some m n read)
integer_of _ n read = cc

version_read : (d e : Data) (version : ℕ) → get (codes "version") d ≡ Some e → as_integer e ≡ Some (pos version) → IsVersion version → IsVersionOf d version
version_read d e version written read known = record { written = written ∙ ap Some (integer_of e (pos version) read); known = known }

pub returns-in-Some-eq1 : goal.returns-in-Some-eq1
returns-in-Some-eq1 c =
    let is : c.in-Some-eq1.field-0 ≡ pos 1 = search rules in
    version_read (view c.args.document.now) (view c.in_ok-version.version.now) 1 c.in_ok-version.ensures.ok (sym c.in-Some-eq1.ensures ∙ ap Some is) (inl refl)

pub returns-in-Some-eq2 : goal.returns-in-Some-eq2
returns-in-Some-eq2 c =
    let is : c.in-Some-eq2.field-0 ≡ pos 2 = search rules in
    version_read (view c.args.document.now) (view c.in_ok-version.version.now) 2 c.in_ok-version.ensures.ok (sym c.in-Some-eq2.ensures ∙ ap Some is) (inr (inl refl))

pub returns-in-Some-eq3 : goal.returns-in-Some-eq3
returns-in-Some-eq3 c =
    let is : c.in-Some-eq3.field-0 ≡ pos 3 = search rules in
    version_read (view c.args.document.now) (view c.in_ok-version.version.now) 3 c.in_ok-version.ensures.ok (sym c.in-Some-eq3.ensures ∙ ap Some is) (inr (inr refl))
