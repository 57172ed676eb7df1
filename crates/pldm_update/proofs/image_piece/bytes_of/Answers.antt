use Rattle.pldm_update.proofs.PieceParts.{piece_parts}
use Rattle.pldm_update.proofs.image_piece.bytes_of.Goals as goal

pub returns : goal.returns
returns c =
    let p = piece_parts c.args.image.now c.args.offset c.args.length in
    let length_is = c.split_at-2.ensures.front_len in
    rw (c.pad.ensures, c.put.ensures, c.new-bytes.ensures, length_is, c.split_at-2.ensures.front, c.min.ensures, c.split_at.ensures.back, c.min-start.ensures) p
