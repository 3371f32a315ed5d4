use Rattle.std.proofs.Common.{inr, refl, sym}
use Rattle.command_words.specs.Words.{serve_told}
use Rattle.hns_commands.proofs.ServeLemmas.{done_by, nothing_out}
use Rattle.hns_commands.proofs.serve.run_serve.Goals as goal

pub returns-in-Ok-clause-done : goal.returns-in-Ok-clause-done
returns-in-Ok-clause-done g c zero =
    done_by c.args.words.now (serve_told c.in-Some.asked) c.new-queue.result.most (g.L.Listener.given c.serve_by.result.listener) (sym c.in-Some.ensures) (sym c.new-queue.ensures) (c.serve_by.ensures.done zero)

pub returns-in-Err-clause-leaves : goal.returns-in-Err-clause-leaves
returns-in-Err-clause-leaves g c = (inr refl, nothing_out _)
