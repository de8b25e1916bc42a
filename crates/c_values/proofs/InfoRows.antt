-- The numbers of two headers, by computing. Assumes nothing.
use mathlib.Core.Path.{◌≡◌, refl}
use mathlib.Core.List.{[], ◌∷◌}
use Rattle.format.specs.Bytes.{field, number, numbers_of}
use Rattle.format.specs.Picture.{product, cells}
use Rattle.format.specs.Accepted.{setting_of, dimensions_of, empty_of, words_count}
use Rattle.c_values.specs.Info.{info_of}

-- the sample of document 01 in kind 2: 12 cells, 4 stored
pub sample_info : info_of
    (2 ∷ 1 ∷ 0 ∷ 0 ∷ 12 ∷ 0 ∷ 0 ∷ 0 ∷ 1 ∷ 0 ∷ 0 ∷ 0 ∷ 1 ∷ 0 ∷ 0 ∷ 0 ∷ 1 ∷ 0 ∷ 0 ∷ 0 ∷ 0 ∷ 0 ∷ 0 ∷ 0 ∷ 4 ∷ 0 ∷ 0 ∷ 0 ∷ [])
    ≡ 2 ∷ 0 ∷ 0 ∷ 1 ∷ 12 ∷ 0 ∷ 4 ∷ 12 ∷ 1 ∷ 1 ∷ 1 ∷ []
unfolding info_of setting_of dimensions_of empty_of words_count field number numbers_of cells product
sample_info = refl

-- 3 by 300 cells with E = 7, in kind 3 of width 1 and step 255: 5 stored
pub other_info : info_of
    (3 ∷ 2 ∷ 1 ∷ 255 ∷ 3 ∷ 0 ∷ 0 ∷ 0 ∷ 44 ∷ 1 ∷ 0 ∷ 0 ∷ 1 ∷ 0 ∷ 0 ∷ 0 ∷ 1 ∷ 0 ∷ 0 ∷ 0 ∷ 7 ∷ 0 ∷ 0 ∷ 0 ∷ 5 ∷ 0 ∷ 0 ∷ 0 ∷ [])
    ≡ 3 ∷ 1 ∷ 255 ∷ 2 ∷ 900 ∷ 7 ∷ 5 ∷ 3 ∷ 300 ∷ 1 ∷ 1 ∷ []
unfolding info_of setting_of dimensions_of empty_of words_count field number numbers_of cells product
other_info = refl
