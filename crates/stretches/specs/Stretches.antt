-- A band by its numbers (01, 'Measuring').
use Rattle.circle.specs.Bands.{Way, width, band_start}
use Rattle.stretches.specs.declared.Band.{Band}

-- a direction's band: its width, and the smallest start that attains it (01, 'Measuring')
abbrev pub band_of : Way → Band
band_of w = record { width = width w; start = band_start w }
