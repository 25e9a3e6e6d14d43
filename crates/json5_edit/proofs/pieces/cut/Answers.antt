use Rattle.json5_edit.proofs.PiecesJoined.{cuts}
use Rattle.json5_edit.proofs.pieces.cut.Goals as goal

pub returns : goal.returns
returns c = cuts c.args.leads c.args.text.now _ c.in_ok-head.head.now c.in_ok-head-2.head.now c.in_ok-head-2.gone.now c.in_ok-head.back.now c.in_ok-front.front.now c.in_ok-front.blank.now c.in_ok-front.middle.now c.args.before c.requires c.in_ok-head.ensures.split c.in_ok-head-2.ensures.split c.in_ok-front.ensures c.in_ok-check_gone.ensures c.in_ok-join_four.ensures
