-- The number of workers of a run.
use Rattle.std.specs.Prelude.{◌≤◌, ℕ}

-- the maximum number of workers of a run
abbrev pub workers_limit : ℕ
workers_limit = 64

-- a run has at least one worker and at most `workers_limit`
pub record IsWorkerCount (workers : ℕ) : Type 0 where
  pub least : 1 ≤ workers
  pub most : workers ≤ workers_limit
