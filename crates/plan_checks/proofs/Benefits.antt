-- What the survey of two plans cites of their benefits.
pub use Rattle.plan_zones.proofs.Benefits.{unchanged, changed}
