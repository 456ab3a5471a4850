use Rattle.std.proofs.Common.{◌≡◌, ◌∙◌, ◌<◌, Some, ap, sym, arith, length, slice_index_or}
use Rattle.std.proofs.lemmas.Option.{get_or_from_slice_get, slice_get_within}
use Rattle.t7_layout.specs.Layouts.{Layout}
use Rattle.t7_layout.specs.Roles.{role_number}
use Rattle.t7_layout.proofs.IndexFacts.{role_stands}
use Rattle.t7_layout.proofs.index.template_of_role.Goals as goal

pub bounds-places-number : goal.bounds-places-number
bounds-places-number c =
    let r = role_stands c.args.templates.now c.args.places.now c.args.role c.requires.places c.requires.holds in
    rw c.number.ensures.value (slice_get_within c.args.places.now (role_number c.args.role) r.place r.there)

pub offset_bounds-templates-places : goal.offset_bounds-templates-places
offset_bounds-templates-places c =
    let r = role_stands c.args.templates.now c.args.places.now c.args.role c.requires.places c.requires.holds in
    let place : slice_index_or c.args.places.now c.number.result 0 ≡ r.place = rw c.number.ensures.value (get_or_from_slice_get c.args.places.now (role_number c.args.role) r.place 0 r.there) in
    let inside : slice_index_or c.args.places.now c.number.result 0 < length c.args.templates.now = rw place (slice_get_within c.args.templates.now r.place r.template r.is) in
    omega (arith, inside)

pub bounds-templates-places : goal.bounds-templates-places
bounds-templates-places c =
    let r = role_stands c.args.templates.now c.args.places.now c.args.role c.requires.places c.requires.holds in
    let place : slice_index_or c.args.places.now c.number.result 0 ≡ r.place = rw c.number.ensures.value (get_or_from_slice_get c.args.places.now (role_number c.args.role) r.place 0 r.there) in
    rw place (slice_get_within c.args.templates.now r.place r.template r.is)

pub returns : goal.returns
returns c =
    let r = role_stands c.args.templates.now c.args.places.now c.args.role c.requires.places c.requires.holds in
    let place : slice_index_or c.args.places.now c.number.result 0 ≡ r.place = rw c.number.ensures.value (get_or_from_slice_get c.args.places.now (role_number c.args.role) r.place 0 r.there) in
    let found = get_or_from_slice_get c.args.templates.now r.place r.template c.index-templates-places.result r.is in
    r.found ∙ ap (λ (t : Layout). Some t) (sym (rw place at c.index-templates-places.is ∙ found))
