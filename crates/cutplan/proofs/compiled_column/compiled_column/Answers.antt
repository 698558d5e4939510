use Rattle.std.proofs.Common.{refl, subst}
use Rattle.cutplan.specs.Masks.{AreMasks}
use Rattle.cutplan.proofs.compiled_column.compiled_column.Goals as goal

pub returns : goal.returns
returns c = record {
  origin = refl;
  partition = c.in_ok-partition.ensures;
  masks = subst (λ rs. AreMasks c.args.table.now c.args.place rs c.in_ok-masks.masks) c.as_slice-regions.ensures.value c.in_ok-masks.ensures;
}
