use Rattle.std.proofs.Common.{get_or, refl}
use Rattle.std.proofs.lemmas.Option.{slice_get-get_or}
use Rattle.intake_csv.specs.Balances.{refusal_place}
use Rattle.intake_csv.specs.declared.column.Column.{Column}
use Rattle.intake_csv.specs.declared.column.Content.TheVariants.{Identifier}
use Rattle.intake_csv.proofs.balances.fault_of.Goals as goal

pub returns : goal.returns
returns c =
    let first : Column = record { place = 0; content = Identifier } in
    let columns = c.args.layout.now.columns in
    let place = refusal_place c.args.version c.args.refusal in
    record {
      column = get_or columns place first;
      located = slice_get-get_or columns place first c.requires.there;
      fault_is = rw (c.as_slice.ensures, c.refusal_place-place.ensures, c.refusal_cause.ensures) refl;
    }
