use Rattle.vod_design.proofs.Images.{blank_fits}
use Rattle.vod_design.proofs.image.blank_image_fits.Goals as goal

pub returns : goal.returns
returns c = blank_fits
