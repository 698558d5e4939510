use Rattle.intake_csv.proofs.balances.balance_file.Goals as goal

pub returns-in-Ok-clause-ok : goal.returns-in-Ok-clause-ok
returns-in-Ok-clause-ok c = rw (c.as_slice.ensures, c.in_ok-needed.ensures) at c.in-Ok.ensures.ok
