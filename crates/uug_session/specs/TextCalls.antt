-- What calls on the bytes of the greeting do, one after the other, as their clauses say (this project's profile).
use Rattle.std.specs.Prelude.{◌≡◌, ◌≢◌, ℕ, ◌<◌, List, [], ◌∷◌, ◌++◌, drop}
use Rattle.uug_session.specs.TextsHeld.{TextsHeld, ShowsText, search_text, text_too_long, after_text_search}

-- a call: these bytes were accepted, a first text was looked for and none was too long, this one was shown, or this one
-- was dropped
pub data TextCall : Type 0 where
  pushed : List ℕ → TextCall
  searched : TextCall
  showed : List ℕ → TextCall
  dropped : List ℕ → TextCall

-- the clauses of `push`, `search`, `showing` and `drop_found`, whose condition is that a text is shown
abbrev pub Makes : TextCall → TextsHeld → TextsHeld → Type 0
Makes (pushed accepted) old new = (new.bytes ≡ old.bytes ++ accepted) × (new.shown_size ≡ old.shown_size)
Makes searched old new = (search_text old.bytes ≢ text_too_long) × (new ≡ after_text_search (search_text old.bytes))
Makes (showed text) old new = (new ≡ old) × ShowsText text old
Makes (dropped text) old new =
    (0 < old.shown_size) × ShowsText text old
    × (new.bytes ≡ drop old.shown_size old.bytes) × (new.shown_size ≡ 0)

-- the calls, one after the other
abbrev pub Make : List TextCall → TextsHeld → TextsHeld → Type 0
Make [] old new = old ≡ new
Make (call ∷ calls) old new = (middle : TextsHeld) × Makes call old middle × Make calls middle new

-- all bytes that were accepted
abbrev pub all_accepted : List TextCall → List ℕ
all_accepted [] = []
all_accepted (pushed accepted ∷ calls) = accepted ++ all_accepted calls
all_accepted (searched ∷ calls) = all_accepted calls
all_accepted (showed text ∷ calls) = all_accepted calls
all_accepted (dropped text ∷ calls) = all_accepted calls

-- the texts that were dropped, in order
abbrev pub all_dropped : List TextCall → List (List ℕ)
all_dropped [] = []
all_dropped (pushed accepted ∷ calls) = all_dropped calls
all_dropped (searched ∷ calls) = all_dropped calls
all_dropped (showed text ∷ calls) = all_dropped calls
all_dropped (dropped text ∷ calls) = text ∷ all_dropped calls
