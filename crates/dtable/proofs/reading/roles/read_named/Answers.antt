use Rattle.std.proofs.lemmas.Grind.{elements}
use Rattle.std.proofs.Common.{◌≡◌, map, Some, get_or, subst, sym, ap, ◌∙◌, rules, arith, length, ◌≤◌, refl}
use Rattle.tables.specs.declared.table.Origin.TheVariants.{Earlier}
use Rattle.dtable.specs.Scope.{seen_of, origin_of, kind_at}
use Rattle.dtable.proofs.FoundOutput.{is_located_at}
use Rattle.tables.specs.Limits.{name_limit_bytes}
use Rattle.dtable.specs.RoleFile.{IsNamedSource}
use Rattle.dtable.proofs.Exits.{passed_on}
use Rattle.dtable.proofs.reading.roles.read_named.Goals as goal

pub returns-in_ok-new-in-Earlier : goal.returns-in_ok-new-in-Earlier
returns-in_ok-new-in-Earlier c =
    let names = c.args.names.now in
    let tables = c.args.tables.now in
    let place = c.in-Earlier.table in
    let column = c.in-Earlier.column in
    let known : origin_of names (map seen_of tables) c.args.text.now ≡ Some (Earlier place column) = sym c.origin_of.ensures ∙ c.in-Some.is ∙ ap Some c.in-Earlier.is in
    let there = is_located_at names tables c.args.text.now place column known in
    let t = c.index-tables-table.result in
    let o = c.index-as_slice-column.result in
    let located : o ≡ get_or (get_or tables place t).outputs column o = c.index-as_slice-column.is ∙ ap (λ os. get_or os column o) c.as_slice.ensures in
    let named : o.name ≡ c.args.text.now = ap (λ u. u.name) located ∙ there.named t o in
    let kind : c.kind_at.result ≡ Some c.args.kind = search rules in
    record {
      same = c.in_ok-new-in-Earlier.ensures ∙ c.as_str.ensures.text ∙ named;
      table = place;
      column = column;
      known = known;
      of_kind = subst (λ origin. kind_at names (map seen_of tables) origin ≡ Some c.args.kind) c.in-Earlier.is (sym c.kind_at.ensures ∙ kind);
    }

pub offset_bounds-tables-table : goal.offset_bounds-tables-table
offset_bounds-tables-table c = grind (arith, elements)

pub offset_bounds-as_slice-column : goal.offset_bounds-as_slice-column
offset_bounds-as_slice-column c = grind (arith, elements)

pub bounds-as_slice-column : goal.bounds-as_slice-column
bounds-as_slice-column c = grind (arith, elements)

pub bounds-tables-table : goal.bounds-tables-table
bounds-tables-table c = grind (arith, elements)

pub new-requires : goal.new-requires
new-requires c = subst (λ name. length name ≤ name_limit_bytes) (sym c.as_str.ensures.text) c.as_str.ensures.short

pub returns-in_err-new-in-Earlier : goal.returns-in_err-new-in-Earlier
returns-in_err-new-in-Earlier c = passed_on (IsNamedSource c.args.names.now (map seen_of c.args.tables.now) c.args.kind c.args.text.now) c.from_residual.result _ c.from_residual.ensures.1 (λ memory source h. memory refl)
