use Rattle.rv_gdb.proofs.session.Session.answer.Goals as goal

pub returns-clause-written : goal.returns-clause-written
returns-clause-written c =
    λ letter rest is other fresh. c.act.ensures (c.command_of-command.ensures.others letter rest is other) fresh
