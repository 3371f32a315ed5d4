use Rattle.std.proofs.Common.{refl}
use Rattle.path_order.proofs.CursorLemmas.{begins}
use Rattle.path_order.proofs.cursor.Cursor.start.Goals as goal

pub returns : goal.returns
returns c = λ shown p is. begins shown p _ c.args.root c.new.ensures.items refl is
