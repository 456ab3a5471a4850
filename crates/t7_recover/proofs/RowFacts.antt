-- The rows of stored responses, after a write at a session's place.
use Rattle.std.proofs.Common.{◌≡◌, ℕ, zero, suc, ◌+◌, ◌-◌, ◌<◌, ◌≤◌, Bool, true, false, cond, ◌==◌, List, [], ◌∷◌, ◌++◌, length, map, set, get_or, refl, sym, ap, ◌∙◌, subst, arith}
use Rattle.std.specs.Prelude.{Contains}
use Rattle.std.proofs.lemmas.Bool.{eqb-false}
use Rattle.std.proofs.lemmas.Map.Made.{Contains-tail}
use Rattle.t7_eti.specs.declared.response.Kept.{Kept}
use Rattle.t7_recover.specs.declared.store.Row.{Row}
use Rattle.t7_recover.specs.Shelves.{KeepsAll, Shelf, appended, empty_shelf, kept_of, place_in, sessions_of, shelf_of, spare_of}

-- the shelf with a response more
abbrev pub more : Kept → Shelf → Shelf
more what s = record s { kept = s.kept ++ what ∷ []; spare = s.spare - 1 }

-- the list of a session stands at its place
pub kept_at : (rows : List Row) (session : ℕ) (d : Row) → place_in session rows < length rows
    → kept_of (map shelf_of rows) session ≡ (get_or rows (place_in session rows) d).kept.items
kept_at [] session d lt = absurd (omega arith)
kept_at (row ∷ rows) session d lt = by_test (row.session == session) (kept_at rows session d) lt
  where
    by_test : (b : Bool) → (place_in session rows < length rows → kept_of (map shelf_of rows) session ≡ (get_or rows (place_in session rows) d).kept.items)
        → cond b zero (suc (place_in session rows)) < suc (length rows)
        → cond b row.kept.items (kept_of (map shelf_of rows) session) ≡ (get_or (row ∷ rows) (cond b zero (suc (place_in session rows))) d).kept.items
    by_test true rest lt = refl
    by_test false rest lt = rest (omega arith)

pub spare_at : (rows : List Row) (session : ℕ) (d : Row) → place_in session rows < length rows
    → spare_of (map shelf_of rows) session ≡ (shelf_of (get_or rows (place_in session rows) d)).spare
spare_at [] session d lt = absurd (omega arith)
spare_at (row ∷ rows) session d lt = by_test (row.session == session) (spare_at rows session d) lt
  where
    by_test : (b : Bool) → (place_in session rows < length rows → spare_of (map shelf_of rows) session ≡ (shelf_of (get_or rows (place_in session rows) d)).spare)
        → cond b zero (suc (place_in session rows)) < suc (length rows)
        → cond b (shelf_of row).spare (spare_of (map shelf_of rows) session) ≡ (shelf_of (get_or (row ∷ rows) (cond b zero (suc (place_in session rows))) d)).spare
    by_test true rest lt = refl
    by_test false rest lt = rest (omega arith)

-- a session without a place has no list
pub kept_nowhere : (rows : List Row) (session : ℕ) → length rows ≤ place_in session rows → kept_of (map shelf_of rows) session ≡ []
kept_nowhere [] session le = refl
kept_nowhere (row ∷ rows) session le = by_test (row.session == session) (kept_nowhere rows session) le
  where
    by_test : (b : Bool) → (length rows ≤ place_in session rows → kept_of (map shelf_of rows) session ≡ []) → suc (length rows) ≤ cond b zero (suc (place_in session rows)) → cond b row.kept.items (kept_of (map shelf_of rows) session) ≡ []
    by_test true rest le = absurd (omega arith)
    by_test false rest le = rest (omega arith)

-- where there is room, there is a place
pub placed_spare : (rows : List Row) (session : ℕ) → 1 ≤ spare_of (map shelf_of rows) session → place_in session rows < length rows
placed_spare [] session some = absurd (omega arith)
placed_spare (row ∷ rows) session some = by_test (row.session == session) (placed_spare rows session) some
  where
    by_test : (b : Bool) → (1 ≤ spare_of (map shelf_of rows) session → place_in session rows < length rows) → 1 ≤ cond b (shelf_of row).spare (spare_of (map shelf_of rows) session) → cond b zero (suc (place_in session rows)) < suc (length rows)
    by_test true rest some = omega arith
    by_test false rest some = let lt : place_in session rows < length rows = rest some in omega arith

-- a session that is there has a place
pub placed_there : (rows : List Row) (session : ℕ) → Contains (sessions_of (map shelf_of rows)) session → place_in session rows < length rows
placed_there [] session there = absurd (omega (arith, there.1))
placed_there (row ∷ rows) session there = by_test (row.session == session) (placed_there rows session) refl
  where
    by_test : (b : Bool) → (Contains (sessions_of (map shelf_of rows)) session → place_in session rows < length rows) → (row.session == session) ≡ b
        → cond b zero (suc (place_in session rows)) < suc (length rows)
    by_test true rest is = omega arith
    by_test false rest is = let lt : place_in session rows < length rows = rest (Contains-tail row.session (sessions_of (map shelf_of rows)) session (eqb-false row.session session is) there) in omega arith

-- a response more at the place of its session
pub set_appended : (rows : List Row) (session : ℕ) (what : Kept) (row d : Row) → place_in session rows < length rows
    → shelf_of row ≡ more what (shelf_of (get_or rows (place_in session rows) d)) → map shelf_of (set rows (place_in session rows) row) ≡ appended (map shelf_of rows) session what
set_appended [] session what row d lt is = absurd (omega arith)
set_appended (r ∷ rows) session what row d lt is = by_test (r.session == session) (set_appended rows session what row d) lt is
  where
    by_test : (b : Bool)
        → (place_in session rows < length rows → shelf_of row ≡ more what (shelf_of (get_or rows (place_in session rows) d)) → map shelf_of (set rows (place_in session rows) row) ≡ appended (map shelf_of rows) session what)
        → cond b zero (suc (place_in session rows)) < suc (length rows)
        → shelf_of row ≡ more what (shelf_of (get_or (r ∷ rows) (cond b zero (suc (place_in session rows))) d))
        → map shelf_of (set (r ∷ rows) (cond b zero (suc (place_in session rows))) row) ≡ cond b (more what (shelf_of r) ∷ map shelf_of rows) (shelf_of r ∷ appended (map shelf_of rows) session what)
    by_test true rest lt is = ap (λ (s : Shelf). s ∷ map shelf_of rows) is
    by_test false rest lt is = ap (λ (l : List Shelf). shelf_of r ∷ l) (rest (omega arith) is)

-- a row that is written with the same session and the same list, and no less room
pub set_keeps : (rows : List Row) (i : ℕ) (row d : Row) → i < length rows → row.session ≡ (get_or rows i d).session → row.kept.items ≡ (get_or rows i d).kept.items
    → (shelf_of (get_or rows i d)).spare ≤ (shelf_of row).spare → KeepsAll (map shelf_of rows) (map shelf_of (set rows i row))
set_keeps [] i row d lt session list room = absurd (omega arith)
set_keeps (r ∷ rows) zero row d lt session list room = record {
  sessions = ap (λ (n : ℕ). n ∷ sessions_of (map shelf_of rows)) session;
  lists = λ q. ap (λ n. cond (n == q) row.kept.items (kept_of (map shelf_of rows) q)) session ∙ ap (λ l. cond (r.session == q) l (kept_of (map shelf_of rows) q)) list;
  spares = λ q. subst (λ n. cond (r.session == q) (shelf_of r).spare (spare_of (map shelf_of rows) q) ≤ n) (ap (λ n. cond (n == q) (shelf_of row).spare (spare_of (map shelf_of rows) q)) (sym session)) (by_test (r.session == q) (spare_of (map shelf_of rows) q));
}
  where
    by_test : (b : Bool) (n : ℕ) → cond b (shelf_of r).spare n ≤ cond b (shelf_of row).spare n
    by_test true n = room
    by_test false n = omega arith
set_keeps (r ∷ rows) (suc i) row d lt session list room =
    let rest = set_keeps rows i row d (omega arith) session list room in
    record {
      sessions = ap (λ (l : List ℕ). r.session ∷ l) rest.sessions;
      lists = λ q. ap (λ l. cond (r.session == q) r.kept.items l) (rest.lists q);
      spares = λ q. by_test (r.session == q) (rest.spares q);
    }
  where
    by_test : (b : Bool) {m n : ℕ} → m ≤ n → cond b (shelf_of r).spare m ≤ cond b (shelf_of r).spare n
    by_test true le = omega arith
    by_test false le = le

-- the room of a session whose row was written at its place
pub set_spare : (rows : List Row) (session : ℕ) (row d : Row) → place_in session rows < length rows → row.session ≡ (get_or rows (place_in session rows) d).session
    → spare_of (map shelf_of (set rows (place_in session rows) row)) session ≡ (shelf_of row).spare
set_spare [] session row d lt same = absurd (omega arith)
set_spare (r ∷ rows) session row d lt same = by_test (r.session == session) refl (set_spare rows session row d) lt same
  where
    by_test : (b : Bool) → (r.session == session) ≡ b
        → (place_in session rows < length rows → row.session ≡ (get_or rows (place_in session rows) d).session → spare_of (map shelf_of (set rows (place_in session rows) row)) session ≡ (shelf_of row).spare)
        → cond b zero (suc (place_in session rows)) < suc (length rows)
        → row.session ≡ (get_or (r ∷ rows) (cond b zero (suc (place_in session rows))) d).session
        → spare_of (map shelf_of (set (r ∷ rows) (cond b zero (suc (place_in session rows))) row)) session ≡ (shelf_of row).spare
    by_test true is rest lt same =
        ap (λ n. cond (n == session) (shelf_of row).spare (spare_of (map shelf_of rows) session)) same
        ∙ ap (λ t. cond t (shelf_of row).spare (spare_of (map shelf_of rows) session)) is
    by_test false is rest lt same =
        ap (λ t. cond t (shelf_of r).spare (spare_of (map shelf_of (set rows (place_in session rows) row)) session)) is ∙ rest (omega arith) same

-- a response more takes one of the room
pub spare-appended : (shelves : List Shelf) (session : ℕ) (what : Kept) → 1 ≤ spare_of shelves session → spare_of (appended shelves session what) session + 1 ≡ spare_of shelves session
spare-appended [] session what some = absurd (omega arith)
spare-appended (s ∷ shelves) session what some = by_test (s.session == session) refl (spare-appended shelves session what) some
  where
    by_test : (b : Bool) → (s.session == session) ≡ b → (1 ≤ spare_of shelves session → spare_of (appended shelves session what) session + 1 ≡ spare_of shelves session) → 1 ≤ cond b s.spare (spare_of shelves session)
        → spare_of (cond b (more what s ∷ shelves) (s ∷ appended shelves session what)) session + 1 ≡ cond b s.spare (spare_of shelves session)
    by_test true is rest some = ap (λ t. cond t (s.spare - 1) (spare_of shelves session) + 1) is ∙ (omega arith)
    by_test false is rest some = ap (λ t. cond t s.spare (spare_of (appended shelves session what) session) + 1) is ∙ rest some

-- a new store has the sessions that it is made for
pub sessions_of_fresh : (sessions : List ℕ) → sessions_of (map empty_shelf sessions) ≡ sessions
sessions_of_fresh [] = refl
sessions_of_fresh (s ∷ sessions) = ap (λ (l : List ℕ). s ∷ l) (sessions_of_fresh sessions)
