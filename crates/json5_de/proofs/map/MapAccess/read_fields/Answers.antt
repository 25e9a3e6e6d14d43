use Rattle.std.proofs.Common.{refl, ◌∙◌}
use Rattle.json5_de.specs.FieldKeys.{field_key_text}
use Rattle.json5_de.specs.Convert.{every_text}
use Rattle.json5_de.specs.Lending.{map_state_of}
use Rattle.json5_de.specs.ShortWays.{if_given}
use Rattle.json5_de.proofs.KeyPlaces.{named_text}
use Rattle.json5_de.proofs.Structs.{no_pairs, reads_name, takes_pair, all_read, key_not_free, key_refuses, pair_not_free, pair_refuses, live_after_key, live_at_brace, brace_next}
use Rattle.json5_de.proofs.StructFaults.{live_before, key_cause, value_cause}
use Rattle.json5_de.proofs.map.MapAccess.read_fields.Goals as goal

pub loop-field_key-init : goal.loop-field_key-init
loop-field_key-init g c = record { same_reference = refl; start = refl; same_text = refl; failed = λ f. f; no_key = c.requires.no_key; reading = no_pairs g.F.Fields.step (g.F.Fields.content c.args.fields.now) (map_state_of c.args.self.now) }

pub read-requires-clause-named : goal.read-requires-clause-named
read-requires-clause-named g c = rw c.as_str.ensures (named_text (rw c.if-branch.true at c.in_ok-next_field_key.ensures.key.begins))

pub loop-field_key-preserved : goal.loop-field_key-preserved
loop-field_key-preserved g c =
    let m = c.loop-field_key.invariant in
    let key = c.in_ok-next_field_key.ensures.key in
    let access = c.in_ok-read.ensures.access in
    let named = reads_name field_key_text c.next_field_key.new.field_key m.reading (live_after_key field_key_text every_text (map_state_of c.loop-field_key.self) (map_state_of c.next_field_key.new.self) c.next_field_key.new.field_key (rw c.if-branch.true at key.sound)) (rw c.if-branch.true at key.read) (rw c.if-branch.true at key.left) in
    record {
      same_reference = access.same_reference ∙ key.access.same_reference ∙ m.same_reference;
      start = access.start ∙ key.access.start ∙ m.start;
      same_text = access.same_text ∙ key.access.same_text ∙ m.same_text;
      failed = λ f. absurd (live_before field_key_text every_text (map_state_of c.loop-field_key.self) (map_state_of c.next_field_key.new.self) (if_given c.next_field_key.new.field_key c.in_ok-next_field_key.field-0) key.sound (m.failed f));
      no_key = c.in_ok-read.ensures.pending;
      reading = takes_pair named (rw c.as_str.ensures at c.in_ok-read.ensures.takes);
    }

pub returns-in_err-next_field_key-clause-reads : goal.returns-in_err-next_field_key-clause-reads
returns-in_err-next_field_key-clause-reads g c =
    key_refuses _ _ field_key_text c.from_residual.ensures.1 c.loop-field_key.invariant.reading c.in_err-next_field_key.ensures.key.refused.failed c.in_err-next_field_key.ensures.key.refused.unprompted c.in_err-next_field_key.ensures.key.left

pub returns-in_err-next_field_key-clause-no_memory : goal.returns-in_err-next_field_key-clause-no_memory
returns-in_err-next_field_key-clause-no_memory g c = key_not_free _ _ g.F.Fields.allocation_free field_key_text c.from_residual.ensures.1 c.loop-field_key.invariant.reading c.in_err-next_field_key.ensures.no_memory c.in_err-next_field_key.ensures.key.left

pub returns-in_err-read-clause-no_memory : goal.returns-in_err-read-clause-no_memory
returns-in_err-read-clause-no_memory g c =
    let key = c.in_ok-next_field_key.ensures.key in
    let named = reads_name field_key_text c.next_field_key.new.field_key c.loop-field_key.invariant.reading (live_after_key field_key_text every_text (map_state_of c.loop-field_key.self) (map_state_of c.next_field_key.new.self) c.next_field_key.new.field_key (rw c.if-branch.true at key.sound)) (rw c.if-branch.true at key.read) (rw c.if-branch.true at key.left) in
    pair_not_free _ _ g.F.Fields.allocation_free c.from_residual-in_err-read.ensures.1 named (rw c.as_str.ensures at c.in_err-read.ensures.no_memory)

pub returns-in_err-read-clause-reads : goal.returns-in_err-read-clause-reads
returns-in_err-read-clause-reads g c =
    let key = c.in_ok-next_field_key.ensures.key in
    let named = reads_name field_key_text c.next_field_key.new.field_key c.loop-field_key.invariant.reading (live_after_key field_key_text every_text (map_state_of c.loop-field_key.self) (map_state_of c.next_field_key.new.self) c.next_field_key.new.field_key (rw c.if-branch.true at key.sound)) (rw c.if-branch.true at key.read) (rw c.if-branch.true at key.left) in
    pair_refuses _ _ c.from_residual-in_err-read.ensures.1 named (rw c.as_str.ensures at c.in_err-read.ensures.takes)

pub returns-clause-reads : goal.returns-clause-reads
returns-clause-reads g c =
    let key = c.in_ok-next_field_key.ensures.key in
    let none = rw c.if-branch.false at key.sound in
    all_read field_key_text c.loop-field_key.invariant.reading (live_at_brace field_key_text every_text (map_state_of c.loop-field_key.self) (map_state_of c.next_field_key.new.self) none)
    (brace_next field_key_text every_text (map_state_of c.loop-field_key.self) (map_state_of c.next_field_key.new.self) none) (rw c.if-branch.false at key.read) (rw c.if-branch.false at key.left)

pub returns-in_err-next_field_key-clause-refused : goal.returns-in_err-next_field_key-clause-refused
returns-in_err-next_field_key-clause-refused g c =
    key_cause _ _ _ c.from_residual.ensures.1 c.loop-field_key.invariant.reading c.loop-field_key.invariant.same_text c.loop-field_key.invariant.start c.in_err-next_field_key.ensures.key.refused.cause
    (λ f. c.in_err-next_field_key.ensures.key.refused.before (c.loop-field_key.invariant.failed f))

pub returns-in_err-read-clause-refused : goal.returns-in_err-read-clause-refused
returns-in_err-read-clause-refused g c =
    let m = c.loop-field_key.invariant in
    let key = c.in_ok-next_field_key.ensures.key in
    let named = reads_name field_key_text c.next_field_key.new.field_key m.reading (live_after_key field_key_text every_text (map_state_of c.loop-field_key.self) (map_state_of c.next_field_key.new.self) c.next_field_key.new.field_key (rw c.if-branch.true at key.sound)) (rw c.if-branch.true at key.read) (rw c.if-branch.true at key.left) in
    value_cause _ _ _ c.from_residual-in_err-read.ensures.1 named (key.access.same_text ∙ m.same_text) (key.access.start ∙ m.start) (rw c.as_str.ensures at c.in_err-read.ensures.refused)
    (λ f. live_before field_key_text every_text (map_state_of c.loop-field_key.self) (map_state_of c.next_field_key.new.self) (if_given c.next_field_key.new.field_key c.in_ok-next_field_key.field-0) key.sound (m.failed f))

pub returns-clause-refused : goal.returns-clause-refused
returns-clause-refused g c = record { cause = tt; before = λ f. absurd (live_before field_key_text every_text (map_state_of c.loop-field_key.self) (map_state_of c.next_field_key.new.self) (if_given c.next_field_key.new.field_key c.in_ok-next_field_key.field-0) c.in_ok-next_field_key.ensures.key.sound (c.loop-field_key.invariant.failed f)) }
