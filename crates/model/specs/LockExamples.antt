-- Document 02, N6: its example, and areas that break the rules of locks, computed.
use Rattle.std.specs.Prelude.{ℕ, ◌≡◌, refl, [], ◌∷◌, ◌++◌, map, set, take}
use Rattle.model.specs.State.{lock_place, room_for}
use Rattle.model.specs.Older.{no_locks, older_length}
use Rattle.model.specs.Separation.{area_after}
use Rattle.model.specs.Examples.{file_l, calling, fresh_l, session, bad_on}
use Rattle.model.specs.Written.{Length, Refused}

-- document 02, N6: a session with locks over file L
pub lock-session : session
    ((14 ∷ 1 ∷ [])
    ∷ (14 ∷ 1 ∷ [])
    ∷ (5 ∷ 1 ∷ [])
    ∷ (8 ∷ 1 ∷ 1 ∷ [])
    ∷ (8 ∷ 1 ∷ 9 ∷ [])
    ∷ (15 ∷ 1 ∷ [])
    ∷ (15 ∷ 1 ∷ [])
    ∷ (8 ∷ 1 ∷ 1 ∷ [])
    ∷ (14 ∷ 1 ∷ [])
    ∷ (15 ∷ 1 ∷ [])
    ∷ (14 ∷ 3 ∷ [])
    ∷ (14 ∷ 0 ∷ [])
    ∷ (11 ∷ 1 ∷ [])
    ∷ (14 ∷ 1 ∷ []) ∷ [])
    ≡ 0 ∷ 23 ∷ 0 ∷ 23 ∷ 14 ∷ 0 ∷ 23 ∷ 0 ∷ 16 ∷ 16 ∷ 11 ∷ 11 ∷ 0 ∷ 0 ∷ []
unfolding session
lock-session = refl

-- document 02, N6: the example's area with card 2, which is inactive, locked: nothing is broken. Then a lock of 2, the
-- lock of card 3, which the line has not, and that of an active card: no record is bad, and 9 refuses. Last an area
-- without locks
pub bad_locks : map bad_on
    (set fresh_l (lock_place (room_for 6) 2) 1
    ∷ set fresh_l (lock_place (room_for 6) 1) 2
    ∷ set fresh_l (lock_place (room_for 6) 3) 1
    ∷ set (area_after file_l fresh_l (map calling ((5 ∷ 1 ∷ []) ∷ (8 ∷ 1 ∷ 1 ∷ []) ∷ []))) (lock_place (room_for 6) 1) 1
    ∷ take (older_length (room_for 6)) fresh_l ∷ [])
    ≡ (Length 0, 0) ∷ (Length 0, 9) ∷ (Length 0, 9) ∷ (Length 0, 9) ∷ (Refused 7, 7) ∷ []
unfolding bad_on
bad_locks = refl

-- document 02, N6: an older area becomes a new one by sixteen zeros
pub older_lengths : map (λ (n : ℕ). older_length (room_for n)) (96 ∷ 97 ∷ []) ≡ 1728 ∷ 3360 ∷ []
unfolding room_for
older_lengths = refl

pub older_fresh : take (older_length (room_for 6)) fresh_l ++ no_locks ≡ fresh_l
unfolding session room_for
older_fresh = refl
