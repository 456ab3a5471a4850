use Rattle.std.proofs.Common.{◌≡◌, List, ◌≤◌, ◌+◌, ◌-◌, get_or, length, map, set, ap, sym, ◌∙◌, subst, arith, vec_len, vec_capacity}
use Rattle.t7_recover.specs.declared.store.Row.{Row}
use Rattle.t7_recover.specs.Shelves.{Shelf, appended, kept_of, place_in, shelf_of, spare_of}
use Rattle.t7_recover.proofs.RowFacts.{kept_at, more, placed_spare, set_appended, set_spare, spare_at}
use Rattle.t7_recover.proofs.store.Store.append.Goals as goal

pub index_mut-row-requires : goal.index_mut-row-requires
index_mut-row-requires c =
    let rows = c.self.inside.rows.items in
    let at : c.place_of-place.result ≡ place_in c.args.session rows = c.place_of-place.ensures.value ∙ ap (place_in c.args.session) c.deref.ensures.value in
    let some : 1 ≤ spare_of (map shelf_of rows) c.args.session = subst (λ v. 1 ≤ spare_of v c.args.session) (sym c.self.view_is) c.requires in
    let lt = placed_spare rows c.args.session some in
    let long : length rows ≡ vec_len c.self.inside.rows = ap length (sym c.deref.ensures.value) ∙ c.deref.ensures.len in
    omega (arith, at, lt, long)

pub push_reserved-requires : goal.push_reserved-requires
push_reserved-requires c =
    let rows = c.self.inside.rows.items in
    let session = c.args.session in
    let row = c.index_mut-row.result.now in
    let at : c.place_of-place.result ≡ place_in session rows = c.place_of-place.ensures.value ∙ ap (place_in session) c.deref.ensures.value in
    let some : 1 ≤ spare_of (map shelf_of rows) session = subst (λ v. 1 ≤ spare_of v session) (sym c.self.view_is) c.requires in
    let here : get_or rows (place_in session rows) row ≡ row = ap (λ i. get_or rows i row) (sym at) ∙ sym c.index_mut-row.ensures.value in
    let room : spare_of (map shelf_of rows) session ≡ vec_capacity row.kept - vec_len row.kept =
    spare_at rows session row (placed_spare rows session some) ∙ ap (λ (r : Row). (shelf_of r).spare) here
    in
    omega (arith, some, room)

pub returns-clause-number : goal.returns-clause-number
returns-clause-number c =
    let rows = c.self.inside.rows.items in
    let session = c.args.session in
    let row = c.index_mut-row.result.now in
    let at : c.place_of-place.result ≡ place_in session rows = c.place_of-place.ensures.value ∙ ap (place_in session) c.deref.ensures.value in
    let some : 1 ≤ spare_of (map shelf_of rows) session = subst (λ v. 1 ≤ spare_of v session) (sym c.self.view_is) c.requires in
    let here : get_or rows (place_in session rows) row ≡ row = ap (λ i. get_or rows i row) (sym at) ∙ sym c.index_mut-row.ensures.value in
    let kept : kept_of c.args.self.now session ≡ row.kept.items =
    ap (λ v. kept_of v session) (sym c.self.view_is) ∙ kept_at rows session row (placed_spare rows session some) ∙ ap (λ (r : Row). r.kept.items) here
    in
    c.len.ensures ∙ c.push_reserved.ensures.len ∙ ap (λ n. n + 1) (row.kept.ok.0 ∙ ap length (sym kept))

pub returns-clause-appended : goal.returns-clause-appended
returns-clause-appended c =
    let rows = c.self.inside.rows.items in
    let session = c.args.session in
    let what = c.args.what in
    let row = c.index_mut-row.result.now in
    let made : Row = record { session = row.session; kept = c.push_reserved.new.self } in
    let at : c.place_of-place.result ≡ place_in session rows = c.place_of-place.ensures.value ∙ ap (place_in session) c.deref.ensures.value in
    let some : 1 ≤ spare_of (map shelf_of rows) session = subst (λ v. 1 ≤ spare_of v session) (sym c.self.view_is) c.requires in
    let here : get_or rows (place_in session rows) row ≡ row = ap (λ i. get_or rows i row) (sym at) ∙ sym c.index_mut-row.ensures.value in
    let less : vec_capacity c.push_reserved.new.self - vec_len c.push_reserved.new.self ≡ (vec_capacity row.kept - vec_len row.kept) - 1 = omega (arith, c.push_reserved.ensures.capacity, c.push_reserved.ensures.len) in
    let new_shelf : shelf_of made ≡ more what (shelf_of row) = λ i. record { session = row.session; kept = c.push_reserved.ensures.items i; spare = less i } in
    ap (λ i. map shelf_of (set rows i made)) at
    ∙ set_appended rows session what made row (placed_spare rows session some) (new_shelf ∙ ap (λ (r : Row). more what (shelf_of r)) (sym here))
    ∙ ap (λ (v : List Shelf). appended v session what) c.self.view_is

pub returns-clause-spare : goal.returns-clause-spare
returns-clause-spare c =
    let rows = c.self.inside.rows.items in
    let session = c.args.session in
    let what = c.args.what in
    let row = c.index_mut-row.result.now in
    let made : Row = record { session = row.session; kept = c.push_reserved.new.self } in
    let at : c.place_of-place.result ≡ place_in session rows = c.place_of-place.ensures.value ∙ ap (place_in session) c.deref.ensures.value in
    let some : 1 ≤ spare_of (map shelf_of rows) session = subst (λ v. 1 ≤ spare_of v session) (sym c.self.view_is) c.requires in
    let here : get_or rows (place_in session rows) row ≡ row = ap (λ i. get_or rows i row) (sym at) ∙ sym c.index_mut-row.ensures.value in
    let room : spare_of (map shelf_of rows) session ≡ vec_capacity row.kept - vec_len row.kept =
    spare_at rows session row (placed_spare rows session some) ∙ ap (λ (r : Row). (shelf_of r).spare) here
    in
    let left : spare_of (map shelf_of (set rows c.place_of-place.result made)) session ≡ vec_capacity c.push_reserved.new.self - vec_len c.push_reserved.new.self =
    ap (λ i. spare_of (map shelf_of (set rows i made)) session) at ∙ set_spare rows session made row (placed_spare rows session some) (ap (λ (r : Row). r.session) (sym here))
    in
    let less : (vec_capacity c.push_reserved.new.self - vec_len c.push_reserved.new.self) + 1 ≡ vec_capacity row.kept - vec_len row.kept = omega (arith, c.push_reserved.ensures.capacity, c.push_reserved.ensures.len, some, room) in
    ap (λ n. n + 1) left ∙ less ∙ sym room ∙ ap (λ (v : List Shelf). spare_of v session) c.self.view_is
