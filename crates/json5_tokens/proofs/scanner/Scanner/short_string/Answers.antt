use Rattle.std.proofs.Common.{ap}
use Rattle.std.specs.Str.{chars}
use Rattle.json5_tokens.specs.Cursor.{Cursor}
use Rattle.json5_tokens.proofs.ShortTexts.{string_read, spaced, begins_inside, ends_inside, found_leaves, took_escape_free}
use Rattle.json5_tokens.proofs.scanner.Scanner.short_string.Goals as goal

pub overflow_sub-span : goal.overflow_sub-span
overflow_sub-span g c =
    begins_inside c.self.invariant (ap (λ (s : Cursor). s.unread) c.self.view_is)
    (spaced (chars c.rest.result.now) c.args.self.now.unread (chars c.skip_ascii.result.now) string_read c.rest.ensures c.skip_ascii.ensures.passed c.in_ok-found.ensures)

pub overflow_sub-span-2 : goal.overflow_sub-span-2
overflow_sub-span-2 g c =
    ends_inside c.self.invariant (ap (λ (s : Cursor). s.unread) c.self.view_is)
    (spaced (chars c.rest.result.now) c.args.self.now.unread (chars c.skip_ascii.result.now) string_read c.rest.ensures c.skip_ascii.ensures.passed c.in_ok-found.ensures)

pub set_remaining-requires : goal.set_remaining-requires
set_remaining-requires g c =
    found_leaves c.args.self.now
    (spaced (chars c.rest.result.now) c.args.self.now.unread (chars c.skip_ascii.result.now) string_read c.rest.ensures c.skip_ascii.ensures.passed c.in_ok-found.ensures)

pub returns : goal.returns
returns g c =
    took_escape_free c.args.self.now c.set_remaining.new.self c.self.invariant (ap (λ (s : Cursor). s.input) c.self.view_is) (ap (λ (s : Cursor). s.unread) c.self.view_is)
    (spaced (chars c.rest.result.now) c.args.self.now.unread (chars c.skip_ascii.result.now) string_read c.rest.ensures c.skip_ascii.ensures.passed c.in_ok-found.ensures) c.set_remaining.ensures
