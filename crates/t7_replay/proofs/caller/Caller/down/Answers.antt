use Rattle.std.proofs.Common.{OnOk, subst}
use Rattle.t7_replay.specs.Calling.{Calling, IsSoundCalling}
use Rattle.t7_replay.proofs.Telling.{sound_ok}
use Rattle.t7_replay.proofs.caller.Caller.down.Goals as goal

pub returns-clause-sound : goal.returns-clause-sound
returns-clause-sound c =
    let e = c.self.inside in
    let now : Calling = record { client = e.client; session = e.session; conn = e.conn; lasts = e.lasts; coming = e.coming.items } in
    subst (λ (k : Calling). OnOk c.take_down-done.result (IsSoundCalling k)) c.self.view_is (sound_ok c.take_down-done.result now c.is_sound.ensures.sound c.is_sound.ensures.few)
