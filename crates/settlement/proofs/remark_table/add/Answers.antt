use Rattle.std.proofs.Common.{ℕ, List, length, ◌≤◌, sym, subst}
use Rattle.settlement.proofs.remark_table.add.Goals as goal

pub insert-requires : goal.insert-requires
insert-requires c = subst (λ (order : List ℕ). c.in-Err.present ≤ length order) c.as_slice-2.ensures c.in-Err.ensures

pub new-requires : goal.new-requires
new-requires c = subst (λ (bytes : List ℕ). length bytes ≤ 256) (sym c.as_str.ensures.value) c.as_str.ensures.fits
