use Rattle.json5_settings_types.proofs.KeysOnce.{put_last}
use Rattle.json5_settings_types.proofs.unique_keys.Members.add.Goals as goal

pub returns-clause-added : goal.returns-clause-added
returns-clause-added g c = (c.in_ok-key.key, c.in_ok-key.ensures.ok, put_last c.args.self.now.values c.insert.new.self c.args.name.now c.in_ok-key.key c.args.value c.requires c.in_ok-key.ensures.ok c.in_ok-insert.ensures.entries)
