use Rattle.std.proofs.Common.{ap, Some, string_bytes}
use Rattle.std.proofs.lemmas.Str.{IsUtf8-string_bytes, encodes-chars}
use Rattle.json5_settings_types.proofs.TextsGathered.{set_back}
use Rattle.json5_settings_types.proofs.text_sets.text_sets_read_back.Goals as goal

pub returns : goal.returns
returns c = set_back _ (λ s. ap Some (encodes-chars (string_bytes s) (IsUtf8-string_bytes s)))
