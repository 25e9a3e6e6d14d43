use Rattle.std.proofs.Common.{drop}
use Rattle.json5_write.specs.WrittenTrees.{array, object, elements_of, fields_of}
use Rattle.json5.specs.ValueRefTrees.{ref_tree, key_of_cow}
use Rattle.json5_write.specs.Out.{out}
use Rattle.json5_write.proofs.Commas.{Left, elements_left, fields_left}
use Rattle.json5.proofs.value_ref_writes.+refs.Given as goal

abbrev pub invariant-put_elements-loop-item : goal.invariant-put_elements-loop-item
invariant-put_elements-loop-item g l = record {
  left : Left (out l.fn.printer.limit (array (elements_of ref_tree l.items)) l.fn.printer.depth) l.fn.printer l.printer (elements_left l.fn.printer.limit (elements_of ref_tree (drop l.item-index l.items)) l.fn.printer.depth l.comma_due);
}

abbrev pub invariant-put_members-loop-key : goal.invariant-put_members-loop-key
invariant-put_members-loop-key g l = record {
  left : Left (out l.fn.printer.limit (object (fields_of key_of_cow ref_tree l.members)) l.fn.printer.depth) l.fn.printer l.printer (fields_left l.fn.printer.limit (fields_of key_of_cow ref_tree (drop l.key-index l.members)) l.fn.printer.depth l.comma_due);
}
