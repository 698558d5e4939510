-- The exit statuses of the commands, by the lemmas of `claim_console`.
pub use Rattle.claim_console.proofs.Ends.{ends_done, kept_twice, placed_done, resource_refused}
