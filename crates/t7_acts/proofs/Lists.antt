-- Acts one after another: their commands and how many of each kind there are.
use Rattle.std.proofs.Common.{◌≡◌, ◌∙◌, ◌+◌, List, [], ◌∷◌, ◌++◌, map, refl, ap, arith}
use Rattle.t7_book.specs.Acts.{Act, Accepts, Beats, Snaps, commands_of}
use Rattle.t7_book.specs.declared.command.Command.{Command}
use Rattle.t7_feed.specs.Sending.{beats_in, snaps_in}

pub commands_both : (acts more : List Act) → commands_of (acts ++ more) ≡ commands_of acts ++ commands_of more
commands_both [] more = refl
commands_both (Accepts c ∷ acts) more = ap (λ cs. c ∷ cs) (commands_both acts more)
commands_both (Beats ∷ acts) more = commands_both acts more
commands_both (Snaps ∷ acts) more = commands_both acts more

pub commands_accepted : (cs : List Command) → commands_of (map Accepts cs) ≡ cs
commands_accepted [] = refl
commands_accepted (c ∷ cs) = ap (λ l. c ∷ l) (commands_accepted cs)

pub commands_more : (acts : List Act) (cs : List Command) → commands_of (acts ++ map Accepts cs) ≡ commands_of acts ++ cs
commands_more acts cs = commands_both acts (map Accepts cs) ∙ ap (λ l. commands_of acts ++ l) (commands_accepted cs)

pub beats_both : (acts more : List Act) → beats_in (acts ++ more) ≡ beats_in acts + beats_in more
beats_both [] more = (let e : beats_in more ≡ 0 + beats_in more = omega arith in e)
beats_both (Accepts c ∷ acts) more = beats_both acts more
beats_both (Beats ∷ acts) more = (let rest = beats_both acts more in omega (arith, rest))
beats_both (Snaps ∷ acts) more = beats_both acts more

pub snaps_both : (acts more : List Act) → snaps_in (acts ++ more) ≡ snaps_in acts + snaps_in more
snaps_both [] more = (let e : snaps_in more ≡ 0 + snaps_in more = omega arith in e)
snaps_both (Accepts c ∷ acts) more = snaps_both acts more
snaps_both (Beats ∷ acts) more = snaps_both acts more
snaps_both (Snaps ∷ acts) more = (let rest = snaps_both acts more in omega (arith, rest))

pub no_beats : (cs : List Command) → beats_in (map Accepts cs) ≡ 0
no_beats [] = refl
no_beats (c ∷ cs) = no_beats cs

pub no_snaps : (cs : List Command) → snaps_in (map Accepts cs) ≡ 0
no_snaps [] = refl
no_snaps (c ∷ cs) = no_snaps cs
