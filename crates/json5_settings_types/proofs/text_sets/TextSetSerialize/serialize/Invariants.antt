use Rattle.json5_ser.specs.RemainingOutput.{Remains, elements}
use Rattle.json5_ser.specs.WrittenCollections.{reference_of}
use Rattle.json5_ser.specs.WrittenTrees.{array, elements_of}
use Rattle.json5_settings_types.proofs.SetsWritten.{text_tree}
use Rattle.json5_settings_types.proofs.text_sets.TextSetSerialize.serialize.Given as goal

abbrev pub invariant-loop-text : goal.invariant-loop-text
invariant-loop-text g l = Remains (array (elements_of text_tree l.fn.self.values.keys)) (reference_of l.initial.list) l.fn.ser l.list (elements (elements_of text_tree l.text-iterator))
