use Rattle.std.proofs.Common.{refl, sym, subst}
use Rattle.json5_read.specs.Brackets.{brackets_of}
use Rattle.json5_read.specs.ModelSteps.{IsInside}
use Rattle.json5_read.proofs.FoundEntries.{entry_refused}
use Rattle.json5_read.proofs.ShortEntries.{entry_gave, closing_gave}
use Rattle.json5_read.proofs.entries.next_entry.Goals as goal

pub returns-in-Entry : goal.returns-in-Entry
returns-in-Entry g c = record { given = entry_gave c.args.kind c.brackets-closing.result c.args.comma_due c.args.scanner.now c.short_step.new.self c.brackets-closing.ensures (rw c.in-Entry.is at c.short_step.ensures); refused = tt; same_text = tt }

pub returns-in-Closing : goal.returns-in-Closing
returns-in-Closing g c = record {
  given = closing_gave c.args.kind c.brackets-closing.result c.args.comma_due c.args.scanner.now c.short_step.new.self c.eat.new.self c.eat.result c.brackets-closing.ensures (rw c.in-Closing.is at c.short_step.ensures) c.eat.ensures.taken c.eat.ensures.kept;
  refused = tt;
  same_text = tt;
}

pub returns-in_err-more : goal.returns-in_err-more
returns-in_err-more g c =
    let old = c.short_step.new.self in
    let new = c.find_entry.new.scanner in
    let same = rw c.in-Other.is at c.short_step.ensures in
    let k = c.in_err-more.ensures in
    rw (← same, c.from_residual.ensures) (entry_refused c.args.kind c.args.comma_due old new c.find_entry.new.fault (subst IsInside (sym same) c.requires) k.refused k.same_text)

pub returns-then-not-more : goal.returns-then-not-more
returns-then-not-more g c =
    let old = c.short_step.new.self in
    let mid = c.find_entry.new.scanner in
    let b = brackets_of c.args.kind in
    let same = rw c.in-Other.is at c.short_step.ensures in
    let k = c.in_ok-more.ensures in
    let ate = rw c.brackets-closing.ensures at c.eat-then-not-more.ensures in
    rw (← same, c.if-not-more.true) (record {
      given = closing_gave c.args.kind b c.args.comma_due old mid c.eat-then-not-more.new.self c.eat-then-not-more.result refl (rw c.if-not-more.true at k.found) ate.taken ate.kept;
      refused = tt;
      same_text = tt;
    })

pub returns-else-not-more : goal.returns-else-not-more
returns-else-not-more g c =
    let old = c.short_step.new.self in
    let mid = c.find_entry.new.scanner in
    let b = brackets_of c.args.kind in
    let same = rw c.in-Other.is at c.short_step.ensures in
    let k = c.in_ok-more.ensures in
    rw (← same, c.if-not-more.false) (record { given = entry_gave c.args.kind b c.args.comma_due old mid refl (rw c.if-not-more.false at k.found); refused = tt; same_text = tt })
