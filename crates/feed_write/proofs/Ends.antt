-- Where entries end, one after another. Assumes nothing.
use Rattle.std.proofs.Common.{◌≡◌, ℕ, ◌+◌, ◌<◌, ◌≤◌, Bool, true, false, cond, ltb, List, [], ◌∷◌, map, length, get_or, drop, is_ok, Ok, Err, Result, sym, refl, ap, ◌∙◌, arith, ltb-false}
use Rattle.std.proofs.lemmas.List.{at_drop_more, at_drop_all}
use Rattle.feed.specs.declared.entry.Entry.{Entry}
use Rattle.feed.specs.Format.{Told}
use Rattle.feed.specs.Shown.{told}
use Rattle.feed_write.specs.declared.fault.WriteFault.{WriteFault}
use Rattle.feed_write.specs.declared.fault.WriteFault.TheVariants.{Room, Reference}
use Rattle.feed_write.specs.Written.{bytes, sound, then, entry_end, list_end, feed_end}

pub record Fitted (room p : ℕ) (e : Told) (q : ℕ) : Type 0 where
  pub soundly : sound e ≡ true
  pub ends : q ≡ p + length (bytes e)
  pub room_for : p + length (bytes e) ≤ room

has_room : (b : Bool) (room n q : ℕ) → ltb room n ≡ b → Ok q ≡ cond b (Err Room) (Ok n) → (q ≡ n) × (n ≤ room)
has_room true room n q t h = let z : ◌≡◌ {A = ℕ} 0 1 = cc in absurd (omega arith)
has_room false room n q t h = let e : q ≡ n = cc in (e, ltb-false room n t)

is_sound : (b : Bool) (n q : ℕ) (f : ℕ → Result ℕ WriteFault) → Ok q ≡ then (cond b (Ok n) (Err Reference)) f → (b ≡ true) × (Ok q ≡ f n)
is_sound true n q f h = (refl, h)
is_sound false n q f h = let z : ◌≡◌ {A = ℕ} 0 1 = cc in absurd (omega arith)

-- an entry that is written is sound, and has room
pub fitted : (room p : ℕ) (e : Told) (q : ℕ) → Ok q ≡ entry_end room p e → Fitted room p e q
fitted room p e q h =
    let s = is_sound (sound e) (length (bytes e)) q (λ n. cond (ltb room (p + n)) (Err Room) (Ok (p + n))) h in
    let r = has_room (ltb room (p + length (bytes e))) room (p + length (bytes e)) q refl s.1 in
    record { soundly = s.0; ends = r.0; room_for = r.1 }

module _ (room p : ℕ) (es : List Entry) (i : ℕ) where
  pub refused_at : {f : WriteFault} (d : Entry) → i < length es → Err f ≡ entry_end room p (told (get_or es i d)) → list_end room p (map told (drop i es)) ≡ Err f
  refused_at d l h = at_drop_more (λ xs. list_end room p (map told xs)) es i d l ∙ ap (λ r. then r (λ q. list_end room q (map told (drop (i + 1) es)))) (sym h)

  pub passed_at : {q : ℕ} (d : Entry) → i < length es → Ok q ≡ entry_end room p (told (get_or es i d)) → list_end room p (map told (drop i es)) ≡ list_end room q (map told (drop (i + 1) es))
  passed_at d l h = at_drop_more (λ xs. list_end room p (map told xs)) es i d l ∙ ap (λ r. then r (λ q. list_end room q (map told (drop (i + 1) es)))) (sym h)

  pub no_more : length es ≤ i → list_end room p (map told (drop i es)) ≡ cond (ltb room (p + 1)) (Err Room) (Ok (p + 1))
  no_more l = at_drop_all (λ xs. list_end room p (map told xs)) es i l

  -- where the whole is written, so is the entry at i, and then what follows it
  module _ (n : ℕ) (d : Entry) (l : i < length es) (whole : list_end room p (map told (drop i es)) ≡ Ok n) where
    same_end : (r : Result ℕ WriteFault) → r ≡ entry_end room p (told (get_or es i d)) → Ok (p + length (bytes (told (get_or es i d)))) ≡ entry_end room p (told (get_or es i d))
    same_end (Ok q) h = let f = fitted room p (told (get_or es i d)) q h in ap Ok (sym f.ends) ∙ h
    same_end (Err f) h = let r = refused_at d l h in let z : ◌≡◌ {A = ℕ} 0 1 = cc in absurd (omega arith)

    pub next_at : list_end room p (map told (drop i es)) ≡ list_end room (p + length (bytes (told (get_or es i d)))) (map told (drop (i + 1) es))
    next_at = passed_at d l (same_end (entry_end room p (told (get_or es i d))) refl)

  -- the last letter has room too
  pub last_room : (n : ℕ) → length es ≤ i → list_end room p (map told (drop i es)) ≡ Ok n → (n ≡ p + 1) × (p + 1 ≤ room)
  last_room n l h = has_room (ltb room (p + 1)) room (p + 1) n refl (sym h ∙ no_more l)

pub past_five : (room n : ℕ) (es : List Told) → Ok n ≡ feed_end room es → (5 ≤ room) × (list_end room 5 es ≡ Ok n)
past_five room n es h = by (ltb room 5) refl h
  where
    by : (b : Bool) → ltb room 5 ≡ b → Ok n ≡ cond b (Err Room) (list_end room 5 es) → (5 ≤ room) × (list_end room 5 es ≡ Ok n)
    by true t k = let z : ◌≡◌ {A = ℕ} 0 1 = cc in absurd (omega arith)
    by false t k = (ltb-false room 5 t, sym k)

-- what is left ends where the whole does
pub left_end : (room room' n start p i : ℕ) (es : List Entry) → Ok n ≡ feed_end room (map told es) → room' ≡ room → start ≡ 5
    → list_end room' start (map told es) ≡ list_end room' p (map told (drop i es)) → list_end room' p (map told (drop i es)) ≡ Ok n
left_end room room' n start p i es h r s e =
    sym e ∙ ap (λ q. list_end room' q (map told es)) s ∙ ap (λ q. list_end q 5 (map told es)) r ∙ (past_five room n (map told es) h).1

-- what is written begins within the room
pub begins_within : (room p n : ℕ) (ts : List Told) → list_end room p ts ≡ Ok n → p ≤ room
begins_within room p n [] h = let r = has_room (ltb room (p + 1)) room (p + 1) n refl (sym h) in omega (arith, r.1)
begins_within room p n (e ∷ ts) h = by (entry_end room p e) refl h
  where
    by : (r : Result ℕ WriteFault) → r ≡ entry_end room p e → then r (λ q. list_end room q ts) ≡ Ok n → p ≤ room
    by (Ok q) k g = let f = fitted room p e q k in omega (arith, f.room_for)
    by (Err f) k g = let z : ◌≡◌ {A = ℕ} 0 1 = cc in absurd (omega arith)

pub some_end : (r : Result ℕ WriteFault) → is_ok r ≡ true → (n : ℕ) × (Ok n ≡ r)
some_end (Ok n) h = (n, refl)
some_end (Err f) h = let z : ◌≡◌ {A = ℕ} 0 1 = cc in absurd (omega arith)
