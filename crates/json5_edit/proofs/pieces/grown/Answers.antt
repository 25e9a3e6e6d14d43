use Rattle.std.proofs.Common.{refl, subst, sym}
use Rattle.json5_edit.specs.Pieces.{IsEntryAlone}
use Rattle.json5_edit.proofs.PiecesJoined.{grows}
use Rattle.json5_edit.proofs.pieces.grown.Goals as goal

pub returns : goal.returns
returns c = grows c.args.kind c.args.value.now c.args.text.now _ c.in_ok-head.head.now c.in_ok-head-2.head.now c.in_ok-head-2.gone.now c.in_ok-head.back.now c.in_ok-front.front.now c.in_ok-front.middle.now c.in_ok-front.comma.now c.as_str.result.now c.args.last c.requires c.in_ok-head.ensures.split c.in_ok-head-2.ensures.split c.in_ok-front.ensures (c.if-not-is_blank.ensures refl) (subst (IsEntryAlone c.args.kind c.args.value.now) (sym c.as_str.ensures.value) c.in_ok-came.ensures) c.in_ok-join_five.ensures
