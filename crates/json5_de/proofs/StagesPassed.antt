-- What a stage says after a call for an element or a key.
use Rattle.std.proofs.Common.{◌≡◌, Bool, true, false, refl}
use Rattle.std.specs.Prelude.{◌||◌}
use Rattle.json5_de.specs.Stages.{is_comma_due, is_pending, with_element, with_key}
use Rattle.json5_de.specs.declared.stage.AccessStage.{AccessStage}
use Rattle.json5_de.specs.declared.stage.AccessStage.TheVariants as stage

-- a comma is due if it was due, or if an element was read
pub comma_after_member : (s : AccessStage) (given : Bool) → is_comma_due (with_element s given) ≡ (is_comma_due s || given)
comma_after_member stage.Empty true = refl
comma_after_member stage.Empty false = refl
comma_after_member stage.FirstKey true = refl
comma_after_member stage.FirstKey false = refl
comma_after_member stage.Started true = refl
comma_after_member stage.Started false = refl
comma_after_member stage.LaterKey true = refl
comma_after_member stage.LaterKey false = refl

-- a key changes nothing of the comma
pub comma_after_key : (s : AccessStage) (given : Bool) → is_comma_due (with_key s given) ≡ is_comma_due s
comma_after_key s false = refl
comma_after_key stage.Empty true = refl
comma_after_key stage.FirstKey true = refl
comma_after_key stage.Started true = refl
comma_after_key stage.LaterKey true = refl

-- if no key was pending, one is pending exactly when a key was returned
pub key_after_key : (s : AccessStage) (given : Bool) → is_pending s ≡ false → is_pending (with_key s given) ≡ given
key_after_key s false none = none
key_after_key stage.Empty true none = refl
key_after_key stage.FirstKey true none = refl
key_after_key stage.Started true none = refl
key_after_key stage.LaterKey true none = refl
