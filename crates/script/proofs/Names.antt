-- A word that has these bytes and no more.
use Rattle.std.proofs.Common.{◌≡◌, ℕ, List, [], ◌∷◌, length, get_or, arith}

pub seven : (w : List ℕ) (a b c d e f g : ℕ) → length w ≡ 7 → get_or w 0 0 ≡ a → get_or w 1 0 ≡ b → get_or w 2 0 ≡ c → get_or w 3 0 ≡ d → get_or w 4 0 ≡ e → get_or w 5 0 ≡ f → get_or w 6 0 ≡ g
    → w ≡ a ∷ b ∷ c ∷ d ∷ e ∷ f ∷ g ∷ []
seven (p ∷ q ∷ r ∷ s ∷ t ∷ u ∷ v ∷ []) a b c d e f g l h0 h1 h2 h3 h4 h5 h6 = cc
seven _ a b c d e f g l h0 h1 h2 h3 h4 h5 h6 = absurd (omega arith)

pub eight : (w : List ℕ) (a b c d e f g h : ℕ) → length w ≡ 8 → get_or w 0 0 ≡ a → get_or w 1 0 ≡ b → get_or w 2 0 ≡ c → get_or w 3 0 ≡ d → get_or w 4 0 ≡ e → get_or w 5 0 ≡ f → get_or w 6 0 ≡ g → get_or w 7 0 ≡ h
    → w ≡ a ∷ b ∷ c ∷ d ∷ e ∷ f ∷ g ∷ h ∷ []
eight (p ∷ q ∷ r ∷ s ∷ t ∷ u ∷ v ∷ x ∷ []) a b c d e f g h l h0 h1 h2 h3 h4 h5 h6 h7 = cc
eight _ a b c d e f g h l h0 h1 h2 h3 h4 h5 h6 h7 = absurd (omega arith)
