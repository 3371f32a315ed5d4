use Rattle.http_front.proofs.FindLemmas.{whole_found}
use Rattle.http_front.proofs.find.take_head.Goals as goal

pub returns : goal.returns
returns c = whole_found _ _ c.args.head.now c.in_ok-parts.parts c.args.body_bytes c.requires.within c.requires.is_head c.requires.short c.requires.few c.in_ok-parts.ensures c.requires.tells
