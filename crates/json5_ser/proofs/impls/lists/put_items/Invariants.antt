use Rattle.std.proofs.Common.{drop}
use Rattle.json5_write.specs.WrittenTrees.{array, elements_of}
use Rattle.json5_write.specs.Out.{out}
use Rattle.json5_write.proofs.Commas.{Left, elements_left}
use Rattle.json5_ser.proofs.impls.lists.put_items.Given as goal

abbrev pub invariant-loop-item : goal.invariant-loop-item
invariant-loop-item g l = record {
  left : Left (out l.fn.ser.limit (array (elements_of g.T.Serialize.tree l.items)) l.fn.ser.depth) l.fn.ser l.ser (elements_left l.fn.ser.limit (elements_of g.T.Serialize.tree (drop l.item-index l.items)) l.fn.ser.depth l.comma_due);
}
