-- Datagrams that are delivered, and the report.
use Rattle.std.proofs.Common.{◌≡◌, ℕ, Bool, true, false, List, [], ◌∷◌, Option, Some, None, refl, sym, ◌∙◌, ap, subst, arith, Result, Ok, Err, IfOk}
use Rattle.t7_base.specs.declared.ids.Channel.{Channel}
use Rattle.t7_base.specs.declared.ids.Channel.TheVariants.{Live, Snap}
use Rattle.t7_base.specs.declared.ids.Feed.{Feed}
use Rattle.t7_base.specs.declared.public.Resting.{Resting}
use Rattle.t7_book.specs.Acts.{Act, commands_of}
use Rattle.t7_book.specs.Trace.{AreAccepted}
use Rattle.t7_eobi.specs.Faults.{fault_of}
use Rattle.t7_entry.specs.Days.{Day}
use Rattle.t7_entry.specs.State.{State}
use Rattle.t7_feed.specs.declared.State.{State as Status}
use Rattle.t7_feed.specs.Arrivals.{AreTerms, Arrival, Delivery, Terms, arrivals, channel_of, reading_of}
use Rattle.t7_feed.specs.Report.{Report}
use Rattle.t7_feed.specs.Sending.{AreActs, AreRanged, Genuine, at_number, sent_on}
use Rattle.t7_member.specs.Keeping.{Image, Keeps}
use Rattle.t7_member.specs.Shown.{IsShownOf}
use Rattle.t7_member.specs.Status.{shown_of, status_of}
use Rattle.t7_outcome.specs.declared.ending.Stop.{Stop}
use Rattle.t7_outcome.specs.Outcome.{text_of}
use Rattle.t7_outcome.proofs.Lines.{spelled_shown}
use Rattle.t7_script.specs.declared.event.Event.TheVariants as kind
use Rattle.t7_replay.specs.Kits.{Does, Gives, Kit, Stands, on_channel}
use Rattle.t7_replay.specs.Lines.{bad_lines, report_lines}
use Rattle.t7_replay.specs.Reports.{AtShow, IsReported, IsShown}
use Rattle.t7_replay.specs.Steps.{delivering, done_by, moment_of}
use Rattle.t7_replay.specs.World.{World}
use Rattle.t7_replay.proofs.Doing.{does_says}
use Rattle.t7_replay.proofs.Opening.{state_of}

-- an exchange that did nothing
are_none : (terms : Terms) → AreActs terms.listing []
are_none terms = record { accepted = record { few = omega arith; each = tt }; ranged = tt; beats = omega arith; snaps = omega arith }

-- the member reads by the table and the product of the world
image_terms : (terms : Terms) (world : World) (kit : Kit) → Stands terms world kit → kit.image.terms ≡ terms
image_terms terms world kit stands = (stands.keeps [] (are_none terms)).holds.terms_are

-- the world after a delivery
abbrev pub after_delivery : World → Bool → Feed → List ℕ → World
after_delivery world forged feed bytes = record world { came = record { feed = feed; bytes = bytes } ∷ world.came; forged = forged }

pub stands_given : (terms : Terms) (world : World) (kit new : Kit) (image : Image) (forged : Bool) (feed : Feed) (bytes text : List ℕ) → Stands terms world kit
    → new ≡ record kit { image = image } → Gives feed bytes kit.image image text
    → (forged ≡ false → Genuine terms world.acts (record { feed = feed; bytes = bytes } ∷ world.came))
    → Stands terms (after_delivery world forged feed bytes) new
stands_given terms world kit new image forged feed bytes text stands is gives genuine = record {
  day = ap (λ (k : Kit). k.day) is ∙ stands.day;
  lives = ap (λ (k : Kit). k.lives) is ∙ stands.lives;
  snaps = ap (λ (k : Kit). k.snaps) is ∙ stands.snaps;
  caller = ap (λ (k : Kit). k.caller) is ∙ stands.caller;
  moment = ap (λ (k : Kit). k.moment) is ∙ stands.moment;
  raw = ap (λ (k : Kit). k.raw) is ∙ stands.raw;
  row = ap (λ (k : Kit). k.row) is ∙ stands.row;
  layouts = ap (λ (k : Kit). k.layouts) is ∙ stands.layouts;
  listing = ap (λ (k : Kit). k.listing) is ∙ stands.listing;
  commands = stands.commands;
  numbered = stands.numbered;
  few_beats = stands.few_beats;
  few_snaps = stands.few_snaps;
  few_made = stands.few_made;
  few_lines = stands.few_lines;
  genuine = genuine;
  keeps = λ acts are. subst (λ (i : Image). Keeps terms acts i (arrivals terms (record { feed = feed; bytes = bytes } ∷ world.came)))
      (sym (ap (λ (k : Kit). k.image) is)) (gives.keeps terms acts world.came are (stands.keeps acts are));
  table = stands.table;
  said = stands.said;
  sound = stands.sound;
  paired = stands.paired;
}

lines_given : (terms : Terms) (world : World) (kit : Kit) (image : Image) (feed : Feed) (bytes text : List ℕ) → Stands terms world kit → Gives feed bytes kit.image image text
    → text ≡ text_of (bad_lines (fault_of (reading_of terms feed) bytes))
lines_given terms world kit image feed bytes text stands gives =
    gives.lines ∙ ap (λ (t : Terms). text_of (bad_lines (fault_of (reading_of t feed) bytes))) (image_terms terms world kit stands)

pub forge_done : {T : Type 0} (items : T → List ℕ) (kit new : Kit) (was image : Image) (feed : Feed) (bytes : List ℕ) (r : Result T Stop) → was ≡ kit.image
    → new ≡ record kit { image = image } → IfOk r (λ text. Gives feed bytes was image (items text))
    → IfOk r (λ text. Does (λ terms world. done_by terms world (kind.Forge feed bytes)) kit new (items text))
forge_done items kit new was image feed bytes (Err stop) same is gives = tt
forge_done items kit new was image feed bytes (Ok text) same is gives =
    let given : Gives feed bytes kit.image image (items text) = subst (λ (i : Image). Gives feed bytes i image (items text)) same gives in
    does_says (λ terms world. done_by terms world (kind.Forge feed bytes)) (λ terms world. after_delivery world true feed bytes)
    (λ terms world. bad_lines (fault_of (reading_of terms feed) bytes)) kit new (items text)
    (λ terms world stands. refl)
    (λ terms world stands. stands_given terms world kit new image true feed bytes (items text) stands is given (λ not. absurd (cc)))
    (λ terms world stands. lines_given terms world kit image feed bytes (items text) stands given)

channel_same : (terms : Terms) (world : World) (kit : Kit) (channel : Channel) → Stands terms world kit → on_channel channel kit.lives kit.snaps ≡ sent_on terms world.acts channel
channel_same terms world kit Live stands = stands.lives
channel_same terms world kit Snap stands = stands.snaps

-- the datagram of this number
sent_at : (terms : Terms) (world : World) (kit : Kit) (feed : Feed) (number : ℕ) (found : Option (List ℕ)) → Stands terms world kit
    → at_number (on_channel (channel_of feed) kit.lives kit.snaps) number ≡ found → at_number (sent_on terms world.acts (channel_of feed)) number ≡ found
sent_at terms world kit feed number found stands is =
    ap (λ (l : List (List ℕ)). at_number l number) (sym (channel_same terms world kit (channel_of feed) stands)) ∙ is

pub deliver_done : {T : Type 0} (items : T → List ℕ)
    → ((terms : Terms) (acts : List Act) (dl : List Delivery) (feed : Feed) (k : ℕ) (bytes : List ℕ) → at_number (sent_on terms acts (channel_of feed)) k ≡ Some bytes
    → Genuine terms acts dl → Genuine terms acts (record { feed = feed; bytes = bytes } ∷ dl))
    → (kit new : Kit) (was image : Image) (feed : Feed) (number : ℕ) (bytes : List ℕ) (r : Result T Stop) → was ≡ kit.image
    → new ≡ record kit { image = image } → at_number (on_channel (channel_of feed) kit.lives kit.snaps) number ≡ Some bytes → IfOk r (λ text. Gives feed bytes was image (items text))
    → IfOk r (λ text. Does (λ terms world. done_by terms world (kind.Deliver feed number)) kit new (items text))
deliver_done items law kit new was image feed number bytes (Err stop) same is found gives = tt
deliver_done items law kit new was image feed number bytes (Ok text) same is found gives =
    let given : Gives feed bytes kit.image image (items text) = subst (λ (i : Image). Gives feed bytes i image (items text)) same gives in
    does_says (λ terms world. done_by terms world (kind.Deliver feed number)) (λ terms world. after_delivery world world.forged feed bytes)
    (λ terms world. bad_lines (fault_of (reading_of terms feed) bytes)) kit new (items text)
    (λ terms world stands. ap (delivering terms world feed) (sent_at terms world kit feed number (Some bytes) stands found))
    (λ terms world stands. stands_given terms world kit new image world.forged feed bytes (items text) stands is given
    (λ not. law terms world.acts world.came feed number bytes (sent_at terms world kit feed number (Some bytes) stands found) (stands.genuine not)))
    (λ terms world stands. lines_given terms world kit image feed bytes (items text) stands given)

-- the datagram of this number was not sent
pub unsent : (kit : Kit) (feed : Feed) (number : ℕ) → at_number (on_channel (channel_of feed) kit.lives kit.snaps) number ≡ None
    → (terms : Terms) (world : World) → Stands terms world kit → done_by terms world (kind.Deliver feed number) ≡ delivering terms world feed None
unsent kit feed number is terms world stands = ap (delivering terms world feed) (sent_at terms world kit feed number None stands is)

-- the acts of a world are ones of an exchange
are_acts : (terms : Terms) (world : World) (kit : Kit) → Stands terms world kit → AreAccepted kit.day.setting.listing kit.day.state.core.accepted
    → AreRanged kit.day.state.core.accepted → AreActs terms.listing world.acts
are_acts terms world kit stands accepted ranged =
    let same : kit.day.state.core.accepted ≡ commands_of world.acts = ap (λ (s : State). s.core.accepted) (state_of terms world kit stands) ∙ sym stands.commands in record {
      accepted = subst (AreAccepted terms.listing) same
          (subst (λ (d : Day). AreAccepted d.setting.listing kit.day.state.core.accepted) stands.day accepted);
      ranged = subst AreRanged same ranged;
      beats = omega (arith, stands.few_beats, stands.few_lines);
      snaps = omega (arith, stands.few_snaps, stands.few_lines);
    }

-- what a member that keeps what came shows is a report, and is supported
pub record Shown : Type 0 where
  pub reported : (terms : Terms) (acts : List Act) (member : Image) (dl : List Delivery) → AreTerms terms → AreActs terms.listing acts
      → Keeps terms acts member (arrivals terms dl) → Genuine terms acts dl
      → Report terms acts dl (status_of member.base member.refused member.known) (shown_of member.base member.list)
  pub supported : (terms : Terms) (acts : List Act) (member : Image) (came : List Arrival) → Keeps terms acts member came
      → IsShownOf terms.listing came (status_of member.base member.refused member.known)

-- what always holds of a day
pub record IsSound (day : Day) : Type 0 where
  pub terms : AreTerms (record { layouts = day.setting.layouts; listing = day.setting.listing })
  pub accepted : AreAccepted day.setting.listing day.state.core.accepted
  pub ranged : AreRanged day.state.core.accepted

is_reported : Shown → (terms : Terms) (world : World) (kit : Kit) (state : Status) (orders : List Resting) → Stands terms world kit → IsSound kit.day
    → state ≡ status_of kit.image.base kit.image.refused kit.image.known → orders ≡ shown_of kit.image.base kit.image.list
    → IsShown (moment_of terms world) (report_lines state orders)
is_reported shown terms world kit state orders stands sound is list =
    let acts = are_acts terms world kit stands sound.accepted sound.ranged in
    let are : AreTerms terms = subst (λ (d : Day). AreTerms (record { layouts = d.setting.layouts; listing = d.setting.listing })) stands.day sound.terms in record {
      state = state;
      orders = orders;
      printed = refl;
      report = λ not. subst (λ (s : Status). Report terms world.acts world.came s orders) (sym is)
          (subst (λ (l : List Resting). Report terms world.acts world.came (status_of kit.image.base kit.image.refused kit.image.known) l) (sym list)
          (shown.reported terms world.acts kit.image world.came are acts (stands.keeps world.acts acts) (stands.genuine not)));
      shown = subst (λ (s : Status). IsShownOf terms.listing (arrivals terms world.came) s) (sym is)
          (shown.supported terms world.acts kit.image (arrivals terms world.came) (stands.keeps world.acts acts));
    }

pub show_done : Shown → (kit : Kit) (day : Day) (image : Image) (state : Status) (orders : List Resting) (text : List ℕ) → day ≡ kit.day → image ≡ kit.image → IsSound day
    → state ≡ status_of image.base image.refused image.known → orders ≡ shown_of image.base image.list → text ≡ text_of (report_lines state orders)
    → Does (λ terms world. done_by terms world kind.Show) kit kit text
show_done shown kit day image state orders text same_day same_image sound is list said = record {
  went = λ terms world stands. stands;
  wrote = λ terms world stands follows. (
    report_lines state orders,
    spelled_shown IsReported (AtShow (moment_of terms world)) (report_lines state orders)
        (is_reported shown terms world kit state orders stands (subst IsSound same_day sound)
        (is ∙ ap (λ (i : Image). status_of i.base i.refused i.known) same_image) (list ∙ ap (λ (i : Image). shown_of i.base i.list) same_image)),
    said,
  );
}
