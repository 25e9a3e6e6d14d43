use Rattle.json5_edit.proofs.Recommented.{recomments}
use Rattle.json5_edit.proofs.commenting.recommented.Goals as goal

pub returns : goal.returns
returns c = recomments c.args.old.now _ c.in_ok-head.head.now c.in_ok-front.front.now c.in_ok-front.gone.now _ c.in_ok-head.back.now c.args.start c.in_ok-head.ensures.split c.in_ok-head.ensures.front_len c.in_ok-front.ensures.split c.in_ok-check_lead.ensures c.in_ok-check_lead-2.ensures c.in_ok-join.ensures
