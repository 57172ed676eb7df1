-- The pieces of an image (DSP0267, "RequestFirmwareData command").
use Rattle.std.specs.Prelude.{ℕ, List, ◌++◌, take, drop, replicate}

-- past the image's end the bytes are 0
abbrev pub piece : List ℕ → ℕ → ℕ → List ℕ
piece image offset length = take length (drop offset image ++ replicate length 0)
